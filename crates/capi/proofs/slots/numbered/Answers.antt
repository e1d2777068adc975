-- `slots::numbered` meets its contract: a slot's numbers are small.
use native.Mathlib.Omega.{arith}
use Prim.Native.Nat.{◌+◌, ◌*◌, ◌≤◌, ◌<◌}
use Rattle.geometry.specs.Layout.{classes, longest_region}
use Rattle.capi.proofs.Lookups.{slot_small}
use Rattle.capi.proofs.slots.numbered.Goals as goal

-- what is known of the numbers once there is a slot
abbrev small : (c : goal.After-struct_known-1)
    → let args = c.args in
    let size = c.slot_size-size.result in
    (args.class < classes) × (args.class * args.layout.region ≤ 11 * longest_region)
    × (args.number * size + size ≤ longest_region)
small c = slot_small _ _ _ c.slots.ensures.0 (omega arith) c.slot_size-size.ensures c.requires

pub overflow_mul-start : goal.overflow_mul-start
overflow_mul-start c = omega (arith, small c)

pub overflow_add-start : goal.overflow_add-start
overflow_add-start c = omega (arith, small c)

pub overflow_cast-result : goal.overflow_cast-result
overflow_cast-result c = omega (arith, small c)

pub overflow_cast-result-3 : goal.overflow_cast-result-3
overflow_cast-result-3 c = omega (arith, small c)
