-- What a request's bytes are read as.
use Prim.Native.Nat.{ℕ, ◌^◌, ◌<◌}
use mathlib.Core.Path.{◌≡◌, ◌∙◌}
use mathlib.Core.Bool.{true}
use Rattle.words.specs.Word.{word_of, bytes_of}
use Rattle.words.proofs.Stored.{word_bytes_lem}
use Rattle.request.specs.Parse.{operation, count_allowed, parse, request_bytes}

-- reading undoes encoding
pub encoded : (code argument count : ℕ) → code < 2 ^ 32 → argument < 2 ^ 32 → count < 2 ^ 32 → count_allowed code count ≡ true
    → parse (request_bytes code argument count) ≡ operation code argument count
unfolding parse
encoded code argument count p q r h =
    let allowed : count_allowed (word_of (bytes_of code)) (word_of (bytes_of count)) ≡ true =
    (λ i. count_allowed (word_bytes_lem code p i) (word_bytes_lem count r i)) ∙ h in
    rw allowed (λ i. operation (word_bytes_lem code p i) (word_bytes_lem argument q i) (word_bytes_lem count r i))
