-- `Heap::next_in_region` meets its contract: the class's slots are looked through, from the first that does not start before the offset.
use mathlib.Core.Path.{refl, ◌∙◌}
use native.Mathlib.Omega.{arith}
use Rattle.inspect.proofs.Within.{found_at}
use Rattle.inspect.proofs.Region.{slots_lie, slot_inside, found_hit, found_none}
use Rattle.inspect.proofs.Heap.next_in_region.Goals as goal

pub next_slot-requires : goal.next_slot-requires
next_slot-requires c =
    let h = c.args.self.now in
    slots_lie h.layout h.metadata.now h.bytes.now c.requires h.fits.heap refl c.power_quotient-class.ensures.0 c.slot_size-size.ensures c.part-part.ensures

pub overflow_add-result : goal.overflow_add-result
overflow_add-result c =
    let h = c.args.self.now in
    let inside = slot_inside h.layout h.metadata.now h.bytes.now c.requires h.fits.heap refl c.power_quotient-class.ensures.0 c.slot_size-size.ensures
    c.part-part.ensures (found_at _ _ _ c.in_ok-slot.ensures).1
    in
    omega (arith, inside)

pub returns-in_err-slot : goal.returns-in_err-slot
returns-in_err-slot c =
    let h = c.args.self.now in
    c.from_residual.ensures ∙ found_none h.layout h.metadata.now h.bytes.now c.requires h.fits.heap refl c.power_quotient-class.ensures.0 c.slot_size-size.ensures
    c.part-part.ensures c.get.ensures c.power_quotient.ensures.0 c.in_err-slot.ensures

pub returns : goal.returns
returns c =
    let h = c.args.self.now in
    found_hit h.layout h.metadata.now h.bytes.now c.requires h.fits.heap refl c.power_quotient-class.ensures.0 c.slot_size-size.ensures
    c.part-part.ensures c.get.ensures c.power_quotient.ensures.0 c.in_ok-slot.ensures
