-- `fewest_for` is `fewest_for`.
use Rattle.std.proofs.Common.{Bool, cond, sym, ap, lit≤, eq-eqb, ne_eqb}
use Rattle.counting.specs.Counting.{fewest_for}
use Rattle.profile.proofs.costs.fewest_for.Goals as goal

pub returns-then-s-eq0 : goal.returns-then-s-eq0
unfolding fewest_for
returns-then-s-eq0 c = (sym (ap (λ (b : Bool). cond b 0 1) (eq-eqb _ _ c.if-s-eq0.true)), lit≤ tt)

pub returns : goal.returns
unfolding fewest_for
returns c = (sym (ap (λ (b : Bool). cond b 0 1) (ne_eqb _ _ c.if-s-eq0.false)), lit≤ tt)
