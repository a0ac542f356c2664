use Rattle.std.proofs.Common.{◌<◌, length, arith}
use Rattle.price.proofs.Ways.{up_within, write_start, write_room, write_on, write_end}
use Rattle.price.proofs.rows.write_back.Given as given
use Rattle.price.proofs.rows.write_back.Goals as goal
use Rattle.price.proofs.rows.write_back.Goals.{In-Some}

pub loop-label-init : goal.loop-label-init
loop-label-init g c = write_start c.args.store.now c.args.last c.args.row.now c.index-store-last.result c.requires.within c.index-store-last.is

-- a stop is still to be written
room : (g : given.Over) (c : In-Some g) → c.loop-label.stops < length c.args.row.now
room g c =
    let s = c.requires.short in
    let r = write_room c.args.store.now c.args.last c.args.row.now c.loop-label.label.now c.loop-label.stops c.loop-label.row c.loop-label.invariant c.in-Some.parent c.requires.back c.in-Some.is in
    omega arith

pub bounds-row-stops : goal.bounds-row-stops
bounds-row-stops g c = let r = room g (goal.at.bounds-row-stops g c).In-Some in let k = c.loop-label.auto.row in omega arith

pub offset_bounds-store-parent : goal.offset_bounds-store-parent
offset_bounds-store-parent g c = let h = up_within c.args.store.now c.loop-label.label.now c.loop-label.invariant.back c.in-Some.parent c.requires.back c.in-Some.is in omega arith

pub bounds-store-parent : goal.bounds-store-parent
bounds-store-parent g c = up_within c.args.store.now c.loop-label.label.now c.loop-label.invariant.back c.in-Some.parent c.requires.back c.in-Some.is

pub loop-label-smaller : goal.loop-label-smaller
loop-label-smaller g c = (write_on c.args.store.now c.args.last c.args.row.now c.loop-label.label.now c.loop-label.stops c.loop-label.row c.loop-label.invariant c.in-Some.parent c.requires.back c.in-Some.is c.index-store-parent.result c.index-store-parent.is (room g (goal.at.loop-label-smaller g c).In-Some)).1

pub loop-label-preserved : goal.loop-label-preserved
loop-label-preserved g c = (write_on c.args.store.now c.args.last c.args.row.now c.loop-label.label.now c.loop-label.stops c.loop-label.row c.loop-label.invariant c.in-Some.parent c.requires.back c.in-Some.is c.index-store-parent.result c.index-store-parent.is (room g (goal.at.loop-label-preserved g c).In-Some)).0

pub returns : goal.returns
returns g c = let e = write_end c.args.store.now c.args.last c.args.row.now c.loop-label.label.now c.loop-label.stops c.loop-label.row c.loop-label.invariant c.in_default.is in record { stops = e.0; row = e.1 }
