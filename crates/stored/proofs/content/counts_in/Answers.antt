-- `counts_in` is `counts_in`: each count fits.
use mathlib.Core.Path.{refl}
use native.Mathlib.Omega.{arith}
use Rattle.stored.specs.Content.{counts_in}
use Rattle.stored.proofs.Small.{modest}
use Rattle.stored.proofs.content.counts_in.Goals as goal

pub overflow_cast-result : goal.overflow_cast-result
overflow_cast-result c = omega (arith, (modest _ c.requires).correctors)

pub overflow_cast-result-2 : goal.overflow_cast-result-2
overflow_cast-result-2 c = omega (arith, (modest _ c.requires).startups)

pub overflow_cast-result-3 : goal.overflow_cast-result-3
overflow_cast-result-3 c = omega (arith, (modest _ c.requires).most)

pub overflow_cast-result-4 : goal.overflow_cast-result-4
overflow_cast-result-4 c = omega (arith, (modest _ c.requires).passes)

pub overflow_cast-result-5 : goal.overflow_cast-result-5
overflow_cast-result-5 c = omega (arith, (modest _ c.requires).steps)

pub overflow_cast-result-6 : goal.overflow_cast-result-6
overflow_cast-result-6 c = omega (arith, (modest _ c.requires).evals)

pub returns : goal.returns
unfolding counts_in
returns c = refl
