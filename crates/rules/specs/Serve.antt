-- Carrying a request out, once it is read.
use Rattle.std.specs.Prelude.{ℕ, List, [], length, Some, None}
use Rattle.geometry.specs.declared.Layout.{Layout}
use Rattle.request.specs.declared.Request.{Request}
use Rattle.request.specs.declared.Request.TheVariants.{Allocate, Free, Remaining, Copy, Read}
use Rattle.request.specs.Parse.{Parsed}
use Rattle.answer.specs.declared.Refusal.TheVariants.{MalformedRequest}
use Rattle.rules.specs.Outcome.{Outcome, refused}
use Rattle.rules.specs.Allocate.{allocate}
use Rattle.rules.specs.Object.{free, remaining, copy}
use Rattle.rules.specs.Read.{read}

-- what is lent beside a request: what a copy reads, and the fallback page of a read (the paper's stand-in page)
pub record Lent : Type 0 where
  pub source : List ℕ
  pub page : List ℕ

abbrev pub lent_with : List ℕ → List ℕ → Lent
lent_with source page = record { source = source; page = page }

-- a source, and no page
abbrev pub lent : List ℕ → Lent
lent source = lent_with source []

abbrev pub perform : Layout → List ℕ → Lent → Request → Outcome
perform G m beside (Allocate size) = allocate G m size
perform G m beside (Free offset) = free G m offset
perform G m beside (Remaining offset) = remaining G m offset
perform G m beside (Copy offset kind) = copy G m offset kind beside.source
perform G m beside (Read offset count) = read G m offset count (length beside.page)

-- a request that was read, or refused
abbrev pub act : Layout → List ℕ → Lent → Parsed → Outcome
act G m beside (Some request) = perform G m beside request
act G m beside None = refused MalformedRequest
