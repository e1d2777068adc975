-- What a read comes to, to its caller.
use Rattle.std.specs.Prelude.{Result, Ok, Err}
use Rattle.answer.specs.declared.Refusal.{Refusal}
use Rattle.answer.specs.declared.Reply.{Reply}
use Rattle.answer.specs.Reply.{served, refused_by}
use Rattle.view.specs.declared.View.{View}
use Rattle.view.specs.View.{no_view}

abbrev pub answer_of : Result View Refusal → Reply
answer_of (Ok v) = served v.len
answer_of (Err r) = refused_by r

-- a refusal shows the empty part of the page
abbrev pub view_shown : Result View Refusal → View
view_shown (Ok v) = v
view_shown (Err r) = no_view
