-- Runs of requests (the paper's runs of tickets): each request is lent a heap of the length opened with, holding any
-- bytes whatever, and the metadata as the request before left it.
use Rattle.std.specs.Prelude.{ℕ, ◌≡◌, List, [], ◌∷◌, length}
use Rattle.request.specs.Parse.{parse, Parsed}
use Rattle.answer.specs.declared.Reply.{Reply}
use Rattle.rules.specs.Serve.{Lent}
use Rattle.rules.specs.Call.{Call, serve}

-- a request's bytes, what is lent beside it, and the bytes of the heap lent to it
pub record Entry : Type 0 where
  pub request : List ℕ
  pub lent : Lent
  pub heap : List ℕ

-- every heap lent has n bytes
abbrev pub HeapsOfLength : ℕ → List Entry → Type 0
HeapsOfLength n [] = Unit {0}
HeapsOfLength n (e ∷ es) = (length e.heap ≡ n) × HeapsOfLength n es

-- an answer, and the whole metadata after it
pub record Step : Type 0 where
  pub answer : Reply
  pub metadata : List ℕ

abbrev pub step_of : List ℕ → Entry → Step
step_of m e =
    let c : Call = serve (length e.heap) m e.request e.lent in
    record { answer = c.answer; metadata = c.metadata }

-- what can be seen of a run
unfoldable pub trace : List ℕ → List Entry → List Step
trace m [] = []
trace m (e ∷ es) = step_of m e ∷ trace (step_of m e).metadata es

-- the metadata that a run leaves
unfoldable pub left : List ℕ → List Entry → List ℕ
left m [] = m
left m (e ∷ es) = left (step_of m e).metadata es

-- a request as it was read, and its answer
pub record Event : Type 0 where
  pub asked : Parsed
  pub answer : Reply

unfoldable pub history : List ℕ → List Entry → List Event
history m [] = []
history m (e ∷ es) =
    record { asked = parse e.request; answer = (step_of m e).answer } ∷ history (step_of m e).metadata es
