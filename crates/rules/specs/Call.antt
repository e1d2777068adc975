-- What a call is to its caller: its answer, the metadata after it, what it makes of the heap's bytes, and where the
-- bytes lie that it shows. All but the heap depends on the heap's length alone.
use Rattle.std.specs.Prelude.{ℕ, List, [], ◌∷◌, length, Some}
use Rattle.mwc.specs.Draw.{is_unusable}
use Rattle.geometry.specs.declared.Layout.{Layout}
use Rattle.request.specs.declared.Request.TheVariants.{Read}
use Rattle.request.specs.Parse.{parse, Parsed}
use Rattle.answer.specs.declared.Refusal.{Refusal}
use Rattle.answer.specs.declared.Refusal.TheVariants.{UnusableSeed}
use Rattle.answer.specs.declared.Reply.{Reply}
use Rattle.answer.specs.Reply.{served, refused_by}
use Rattle.answer.specs.Checks.{◌when◌, checked}
use Rattle.view.specs.declared.View.{View}
use Rattle.judge.specs.Judge.{lengths, once_laid, admit}
use Rattle.rules.specs.Open.{Setup, fresh}
use Rattle.canary.specs.Canary.{filled_heap}
use Rattle.view.specs.View.{no_view}
use Rattle.rules.specs.Outcome.{Outcome, reply, metadata_after, heap_after, view_of}
use Rattle.rules.specs.Serve.{Lent, lent_with, act}

pub record Call : Type 0 where
  pub answer : Reply
  pub metadata : List ℕ
  pub heap : List ℕ → List ℕ
  pub view : View

-- an outcome on metadata m
abbrev pub called_by : Layout → List ℕ → Outcome → Call
called_by G m o =
    record { answer = reply G o; metadata = metadata_after G m o; heap = λ h. heap_after G m h o; view = view_of o }

-- what is refused changes nothing and shows nothing
abbrev pub unserved : List ℕ → Refusal → Call
unserved m r = record { answer = refused_by r; metadata = m; heap = λ h. h; view = no_view }

-- what a request asks for, on metadata of any bytes and length: lengths and counts are judged, and then it is carried
-- out
unfoldable pub serving : ℕ → List ℕ → Lent → Parsed → Call
serving heap_bytes m beside asked =
    once_laid (unserved m) (λ G. called_by G m (act G m beside asked)) (admit heap_bytes m)

-- a request of any bytes, which is read whole before it is carried out
abbrev pub serve : ℕ → List ℕ → List ℕ → Lent → Call
serve heap_bytes m request beside = serving heap_bytes m beside (parse request)

-- a read with plain arguments
abbrev pub reading : ℕ → List ℕ → ℕ → ℕ → List ℕ → Call
reading heap_bytes m offset count page = serving heap_bytes m (lent_with [] page) (Some (Read offset count))

-- an opening: fresh metadata, and a canary in every slot
abbrev pub opened_by : Layout → Setup → Call
opened_by G s = record { answer = served 0; metadata = fresh G s; heap = λ h. filled_heap G s.canary h; view = no_view }

unfoldable pub opening : ℕ → List ℕ → Setup → Call
opening heap_bytes m s =
    once_laid (unserved m)
    (λ G. checked (unserved m) (UnusableSeed when is_unusable s.seeds ∷ []) (opened_by G s))
    (lengths heap_bytes (length m))

-- ---- one request after another

-- a heap and its metadata, as they are kept between requests
pub record State : Type 0 where
  pub heap : List ℕ
  pub metadata : List ℕ

abbrev pub state_of : List ℕ → List ℕ → State
state_of heap metadata = record { heap = heap; metadata = metadata }

-- a request's call there, and what it leaves
abbrev pub serve_on : State → List ℕ → Lent → Call
serve_on s request beside = serve (length s.heap) s.metadata request beside

abbrev pub state_after : State → List ℕ → Lent → State
state_after s request beside = state_of ((serve_on s request beside).heap s.heap) (serve_on s request beside).metadata
