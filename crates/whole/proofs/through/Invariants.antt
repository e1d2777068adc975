-- The loop's invariant: the blocks before this one are voted on.
use Prim.Native.Nat.{◌-◌}
use Rattle.whole.proofs.Blocks.{Reached}
use Rattle.whole.proofs.through.Given as goal

abbrev pub invariant-loop-left : goal.invariant-loop-left
invariant-loop-left l =
    Reached l.outputs l.replicas l.len l.initial.output l.output l.still l.block l.at

abbrev pub decreases-loop-left : goal.decreases-loop-left
decreases-loop-left l = l.len - l.at
