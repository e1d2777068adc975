-- The words of a text.
use Rattle.std.specs.Prelude.{ℕ, ◌-◌, Bool, true, false, cond, ◌||◌, List, length, take, drop, get_or, eqb}
use Rattle.std.specs.Bool.{beq}
use Rattle.search.specs.First.{first}
unfoldable pub use Rattle.alike.specs.Text.{bytes}
use Rattle.line.specs.declared.Word.{Word}

-- bytes that separate words: a tab and a space
unfoldable pub is_blank : ℕ → Bool
is_blank b = eqb b 9 || eqb b 32

-- the first place from a on whose byte is a blank, or is none, as asked; the length where there is no such place
abbrev pub seek : List ℕ → ℕ → Bool → ℕ
seek text a blank = first (λ i. beq (is_blank (get_or text i 0)) blank) a (length text - a)

-- where the next word lies from place a on; at the end of the text where only blanks are left
unfoldable pub next_word : List ℕ → ℕ → Word
next_word text a =
    let start : ℕ = seek text a false in
    record { start = start; end = seek text start true }

-- the bytes of a word
abbrev pub word_bytes : List ℕ → Word → List ℕ
word_bytes text w = take (w.end - w.start) (drop w.start text)

abbrev pub carriage_return : ℕ
carriage_return = 13

-- where a line ends without the carriage return that may stand before its line feed
unfoldable pub trimmed_end : List ℕ → ℕ
trimmed_end line = cond (eqb (get_or line (length line - 1) 0) carriage_return) (length line - 1) (length line)

-- the line without it
abbrev pub trimmed : List ℕ → List ℕ
trimmed line = take (trimmed_end line) line
