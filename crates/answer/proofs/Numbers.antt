-- The numbers of refusals.
use mathlib.Core.Path.{◌≡◌}
use native.Mathlib.Omega.{arith}
use Rattle.answer.specs.declared.Refusal.{Refusal}
use Rattle.answer.specs.declared.Refusal.TheVariants.{UnusableSeed, HeapLength, MetadataLength}
use Rattle.answer.specs.declared.Refusal.TheVariants.{MalformedRequest, UnsupportedSize, ClassTooSmall}
use Rattle.answer.specs.declared.Refusal.TheVariants.{ClassAtCapacity, OutOfRange, NotASlotStart, NotAllocated}
use Rattle.answer.specs.declared.Refusal.TheVariants.{InvalidVote, NoAgreement, CorruptMetadata, ListTooShort}
use Rattle.answer.specs.declared.Refusal.TheVariants.{InvalidOutputs}
use Rattle.answer.specs.Reply.{number_of}

-- a refusal's number is never that of a served request
pub refusal_number : (r : Refusal) → number_of r ≡ 0 → ⊥
refusal_number UnusableSeed e = omega arith
refusal_number HeapLength e = omega arith
refusal_number MetadataLength e = omega arith
refusal_number MalformedRequest e = omega arith
refusal_number UnsupportedSize e = omega arith
refusal_number ClassTooSmall e = omega arith
refusal_number ClassAtCapacity e = omega arith
refusal_number OutOfRange e = omega arith
refusal_number NotASlotStart e = omega arith
refusal_number NotAllocated e = omega arith
refusal_number InvalidVote e = omega arith
refusal_number NoAgreement e = omega arith
refusal_number CorruptMetadata e = omega arith
refusal_number ListTooShort e = omega arith
refusal_number InvalidOutputs e = omega arith
