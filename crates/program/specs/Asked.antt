-- What a program's arguments ask for.
use Rattle.std.specs.Prelude.{ℕ, ◌+◌, true, false, cond, List, eqb, leb, Result, Ok, Err}
use Rattle.std.specs.declared.env.FillError.{FillError}
use Rattle.std.specs.declared.env.FillError.TheVariants.{TooLong, NotPresent}
use Rattle.alike.specs.Alike.{alike}
use Rattle.alike.specs.Text.{bytes}
use Rattle.quoting.specs.Quoted.{shown_most}
use Rattle.program.specs.declared.arguments.Choice.{Choice}
use Rattle.program.specs.declared.arguments.Choice.TheVariants.{Run, Help, Version, Unknown}
use Rattle.program.specs.declared.arguments.Asked.{Asked}

-- `count` words, of which those from `own` on are the user's: what the first of these asks for where it is the only
-- one; else the one after it is unknown
unfoldable pub alone_of : ℕ → ℕ → Choice → Choice
alone_of count own choice = cond (eqb count (own + 1)) choice (Unknown (own + 1))

-- what they ask for, and which word is the first that is unknown; `argument` is word `own`
unfoldable pub choice_of : ℕ → ℕ → List ℕ → Choice
choice_of count own argument =
    cond (leb count own) Run
    (cond (alike argument (bytes "--help")) (alone_of count own Help)
    (cond (alike argument (bytes "--version")) (alone_of count own Version) (Unknown own)))

-- `count` words, the program's name first; where there is no first or second argument it counts as empty
unfoldable pub asked_of : ℕ → List ℕ → List ℕ → Asked
asked_of count first second =
    cond (alike first (bytes "--status")) (record { launched = true; choice = choice_of count 2 second })
    (record { launched = false; choice = choice_of count 1 first })

-- more bytes of an argument than are shown: enough to tell that it is longer
abbrev pub argument_room : ℕ
argument_room = shown_most + 1

-- how many bytes an argument has of that room, by the answer to a look at it: all where it is longer, and none where
-- there is no such argument
abbrev pub held_of : Result ℕ FillError → ℕ
held_of (Ok got) = got
held_of (Err TooLong) = argument_room
held_of (Err NotPresent) = 0
