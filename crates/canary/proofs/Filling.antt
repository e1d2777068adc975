-- Patterns written over and over, from the front on.
use Prim.Native.Nat.{ℕ, min, ◌+◌, ◌-◌, ◌%◌, ◌<◌, ◌≤◌}
use mathlib.Core.Path.{◌≡◌, refl, sym, ap, ◌∙◌}
use mathlib.Core.List.{List, [], ◌++◌, append-nil, append_assoc}
use native.Mathlib.Nat.{zero-add, le_of_eq, add-sub_cancel_left, add-mod, mod-mod, mod-eq_of_lt}
use native.Mathlib.Omega.{arith}
use lib.ListN.{length, take, drop, get_or, length-append, length-take, length-drop, drop_of_length-le}
use lib.Seq.{take_all, take_at, length-take-le, drop_at, drop-drop, drop-length, get_or-take, ext_get_or}
use Rattle.words.specs.Word.{bytes_of}
use Rattle.writing.specs.Overwrite.{overwrite}
use Rattle.search.specs.Tabulate.{tabulate}
use Rattle.search.proofs.Tabulate.{tabulate_length, tabulate_add, tabulate_at, tabulate_moved}
use Rattle.canary.specs.Canary.{cycled, canary_byte, filled}

-- ---- written as far as a place, and from there on as it was

abbrev pub Front : (ℕ → ℕ) → List ℕ → List ℕ → ℕ → Type 0
Front f before now at = now ≡ tabulate f 0 at ++ drop at before

module _ (f : ℕ → ℕ) (before : List ℕ) where
  pub front_none : Front f before before 0
  unfolding tabulate
  front_none = refl

  pub front_length : {now : List ℕ} (at : ℕ) → at ≤ length before → Front f before now at → length now ≡ length before
  front_length at h e = rw (e, length-append, tabulate_length, length-drop) (omega arith)

  -- a part more is written
  pub front_more : {now part : List ℕ} (at k : ℕ) → Front f before now at → part ≡ tabulate f at k
      → Front f before (take at now ++ (part ++ drop k (drop at now))) (at + k)
  front_more at k e p =
      let size : length (tabulate f 0 at) ≡ at = tabulate_length f 0 at in
      rw (e, take_at (tabulate f 0 at) (drop at before) at size, drop_at (tabulate f 0 at) (drop at before) at size, drop-drop k at before, p)
      (sym (append_assoc (tabulate f 0 at) (tabulate f at k) (drop (at + k) before))
      ∙ ap (λ (xs : List ℕ). xs ++ drop (at + k) before) (sym (rw zero-add at (tabulate_add f 0 at k))))

  -- a part of what is written
  pub front_part : {now : List ℕ} (at k : ℕ) → k ≤ at → Front f before now at → take k now ≡ tabulate f 0 k
  front_part at k h e =
      let whole : k + (at - k) ≡ at = omega arith in
      let both : tabulate f 0 at ≡ tabulate f 0 k ++ tabulate f (0 + k) (at - k) = rw whole at (tabulate_add f 0 k (at - k)) in
      rw (e, both, append_assoc) (take_at (tabulate f 0 k) _ k (tabulate_length f 0 k))

  -- all is written
  pub front_all : {now : List ℕ} (at : ℕ) → Front f before now at → at ≡ length before → now ≡ tabulate f 0 (length before)
  front_all at e all = e ∙ rw (all, drop-length, append-nil)

-- ---- patterns

-- at a place that is whole patterns from the start, a pattern begins anew
pub cycled_anew : (pattern : List ℕ) (at i : ℕ) → at % length pattern ≡ 0 → cycled pattern (at + i) ≡ cycled pattern i
cycled_anew pattern at i e = ap (λ (j : ℕ). get_or pattern j 0) (add-mod at i (length pattern) ∙ rw (e, zero-add) (mod-mod i (length pattern)))

-- so what is written there is as much of it as there is room for
pub cycled_text : (pattern : List ℕ) (at room : ℕ) → at % length pattern ≡ 0
    → take room pattern ≡ tabulate (cycled pattern) at (length (take room pattern))
cycled_text pattern at room e =
    ext_get_or 0 (take room pattern) (tabulate (cycled pattern) 0 n) (sym (tabulate_length (cycled pattern) 0 n)) entry
    ∙ tabulate_moved (cycled pattern) (cycled pattern) 0 at n (λ k l. rw zero-add (sym (cycled_anew pattern at k e)))
  where
    n : ℕ
    n = length (take room pattern)

    entry : (i : ℕ) → i < n → get_or (take room pattern) i 0 ≡ get_or (tabulate (cycled pattern) 0 n) i 0
    entry i l =
        get_or-take room pattern i 0 (omega (arith, length-take room pattern))
        ∙ sym (tabulate_at (cycled pattern) 0 n i l ∙ ap (λ (j : ℕ). get_or pattern j 0) (mod-eq_of_lt (omega (arith, length-take room pattern))))

-- ---- a loop's turn

-- the four bytes of a canary written
pub word_more : (canary : ℕ) (before : List ℕ) {now w : List ℕ} (at : ℕ) {next : ℕ} → next ≡ at + 4 → at % 4 ≡ 0
    → Front (canary_byte canary) before now at → w ≡ bytes_of canary
    → Front (canary_byte canary) before (take at now ++ (w ++ drop (at + 4 - at) (drop at now))) next
word_more canary before at is whole e wrote =
    rw (is, add-sub_cancel_left at 4)
    (front_more (canary_byte canary) before at 4 e (wrote ∙ cycled_text (bytes_of canary) at 4 whole))

-- as much of a pattern as there is room for
module _ (pattern before now : List ℕ) {w : List ℕ} {r : ℕ} (at : ℕ) (kept : length now ≡ length before) (inside : at ≤ length now)
    (wrote : let part = take (length now - at) (drop at now) in
    let text = take (length part) pattern in
    (r ≡ length text) × (w ≡ overwrite part 0 text)) where
  rest : length (drop at now) ≡ length now - at
  rest = length-drop at now

  part : take (length now - at) (drop at now) ≡ drop at now
  part = take_all (length now - at) (drop at now) (le_of_eq rest)

  pub text_size : r ≡ min (length before - at) (length pattern)
  text_size = rw (part, rest) at wrote.0 ∙ length-take (length now - at) pattern ∙ rw kept

  pub text_more : at % length pattern ≡ 0 → Front (cycled pattern) before now at
      → Front (cycled pattern) before (take at now ++ (w ++ drop (length now - at) (drop at now))) (at + r)
  text_more whole e =
      let gone : drop (length now - at) (drop at now) ≡ [] = drop_of_length-le (drop at now) (le_of_eq rest) in
      let written : w ≡ take (length now - at) pattern ++ drop r (drop at now) = rw (part, rest) at wrote.1 ∙ rw (← (rw (part, rest) at wrote.0)) in
      rw (gone, append-nil, written)
      (front_more (cycled pattern) before at r e (rw (← (rw (part, rest) at wrote.0)) at (cycled_text pattern at (length now - at) whole)))

-- ---- the front again

-- the front is filled by itself
module _ (canary : ℕ) (before : List ℕ) (at : ℕ) {w : List ℕ} (wrote : w ≡ filled canary (length (take at before))) (inside : at ≤ length before) where
  front_filled : w ++ drop at before ≡ filled canary at ++ drop at before
  front_filled = rw (wrote, length-take-le at before inside)

  pub first_kept : length (w ++ drop at before) ≡ length before
  first_kept = front_length (canary_byte canary) before at inside front_filled

  pub first_front : Front (canary_byte canary) (w ++ drop at before) (w ++ drop at before) at
  first_front =
      rw (front_filled, drop_at (filled canary at) (drop at before) at (tabulate_length (canary_byte canary) 0 at))

-- and from a place that is whole canaries from the start it goes on
pub repeat_more : (canary : ℕ) (before : List ℕ) {now after : List ℕ} (at len : ℕ) → at % 4 ≡ 0 → len ≤ at
    → Front (canary_byte canary) before now at → after ≡ overwrite now at (take len now) → Front (canary_byte canary) before after (at + len)
repeat_more canary before {now} at len whole h e wrote =
    let front : take len now ≡ tabulate (canary_byte canary) 0 len = front_part (canary_byte canary) before at len h e in
    let text : take len now ≡ tabulate (canary_byte canary) at len =
    front ∙ tabulate_moved (canary_byte canary) (canary_byte canary) 0 at len (λ k l. rw zero-add (sym (cycled_anew (bytes_of canary) at k whole))) in
    let size : length (take len now) ≡ len = ap length front ∙ tabulate_length (canary_byte canary) 0 len in
    rw (wrote, size) (front_more (canary_byte canary) before at len e text)

-- how much of it is written at once: some, all that was written or so many bytes, as far as there is room
module _ (most n at : ℕ) {part len : ℕ} (p : part ≡ min most at) (l : len ≡ min part (n - at)) (more : at < n) where
  pub copy_fits : (at + len ≤ n) × (len ≤ at) × (len ≤ most)
  copy_fits = (omega arith, omega arith, omega arith)

  pub copy_whole : most % 4 ≡ 0 → at % 4 ≡ 0 → at + len < n → (at + len) % 4 ≡ 0
  copy_whole e f k = omega arith
