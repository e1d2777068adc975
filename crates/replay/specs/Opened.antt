-- What requests are served on: the heap and the metadata as an opening leaves them.
use Rattle.std.specs.Prelude.{List, length, ℕ}
use Rattle.rules.specs.Open.{Setup}
use Rattle.rules.specs.Call.{Call, State, state_of, opening}

abbrev pub opened_state : List ℕ → List ℕ → Setup → State
opened_state heap metadata given =
    let opened : Call = opening (length heap) metadata given in
    state_of (opened.heap heap) opened.metadata
