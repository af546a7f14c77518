-- `root::root` meets its contract.
use Prim.Native.Nat.{◌*◌, ◌^◌}
use lib.Ieee.{binary64, of_bits, to_bits, div}
use Rattle.std.proofs.lemmas.Float.{T_from_true}
use Rattle.root.specs.Parts.{units_of}
use Rattle.root.proofs.Written.{written, no_nan}
use Rattle.root.proofs.Cases.{not_nan, some_bits, root_inf, root_number, at_zero, elsewhere}
use Rattle.root.proofs.root.Goals as goal

pub float_to_bits-b : goal.float_to_bits-b
unfolding of_bits
float_to_bits-b c = not_nan c.args.x c.if-x.true

pub pattern-requires : goal.pattern-requires
unfolding of_bits
pattern-requires c = (some_bits c.args.x (T_from_true _ c.well_formed.0.1) c.if-x.true, c.if-b-lt-INFINITY.true)

pub float_from_bits-result : goal.float_from_bits-result
float_from_bits-result c = no_nan (units_of (to_bits binary64 c.args.x) * 2 ^ 1074) c.pattern.result c.pattern.ensures

pub returns-then-b-lt-INFINITY : goal.returns-then-b-lt-INFINITY
unfolding of_bits
returns-then-b-lt-INFINITY c =
    let x = c.args.x in
    root_number x (of_bits binary64 c.pattern.result) (T_from_true _ c.well_formed.0.1) c.if-x.true c.if-b-lt-INFINITY.true
    (written (units_of (to_bits binary64 x) * 2 ^ 1074) c.pattern.result c.pattern.ensures)

pub returns-then-x : goal.returns-then-x
unfolding of_bits
returns-then-x c = root_inf c.args.x (T_from_true _ c.well_formed.0.1) c.if-x.true c.if-b-lt-INFINITY.false

pub returns-then-x-2 : goal.returns-then-x-2
unfolding of_bits
returns-then-x-2 c = at_zero c.args.x c.if-x-2.true

pub returns-else-x-2 : goal.returns-else-x-2
unfolding of_bits div
returns-else-x-2 c = elsewhere c.args.x c.if-x.false c.if-x-2.false
