-- The table of refusals (the paper's slips), and what an answer says in numbers.
use Rattle.std.specs.Prelude.{ℕ, Result, Ok, Err}
use Rattle.answer.specs.declared.Refusal.{Refusal}
use Rattle.answer.specs.declared.Refusal.TheVariants.{UnusableSeed, HeapLength, MetadataLength}
use Rattle.answer.specs.declared.Refusal.TheVariants.{MalformedRequest, UnsupportedSize, ClassTooSmall}
use Rattle.answer.specs.declared.Refusal.TheVariants.{ClassAtCapacity, OutOfRange, NotASlotStart, NotAllocated}
use Rattle.answer.specs.declared.Refusal.TheVariants.{InvalidVote, NoAgreement, CorruptMetadata, ListTooShort}
use Rattle.answer.specs.declared.Refusal.TheVariants.{InvalidOutputs}
use Rattle.answer.specs.declared.Reply.{Reply}

-- each refusal's number in the paper, whose words are: dead seed, wrong area, wrong book, spoilt ticket, no such size,
-- closed class, half full, off the area, no start, not live, bad ballot, no two alike, torn book, short list, bad outputs
abbrev pub number_of : Refusal → ℕ
number_of UnusableSeed = 1
number_of HeapLength = 2
number_of MetadataLength = 3
number_of MalformedRequest = 4
number_of UnsupportedSize = 5
number_of ClassTooSmall = 6
number_of ClassAtCapacity = 7
number_of OutOfRange = 8
number_of NotASlotStart = 9
number_of NotAllocated = 10
number_of InvalidVote = 11
number_of NoAgreement = 12
number_of CorruptMetadata = 13
number_of ListTooShort = 14
number_of InvalidOutputs = 15

-- an answer as the paper gives it is a reply: the refusal's number, 0 where it is served, and the value, 0 where it is
-- refused
abbrev pub served : ℕ → Reply
served v = record { number = 0; value = v }

abbrev pub refused_by : Refusal → Reply
refused_by r = record { number = number_of r; value = 0 }

abbrev pub reply_of : Result ℕ Refusal → Reply
reply_of (Ok v) = served v
reply_of (Err r) = refused_by r
