-- A renewed body counts the same passes.
use Rattle.run.specs.Moves.{renewed}
use Rattle.gauss_jackson.proofs.taking.take_pass.Goals as goal

pub end_pass-requires : goal.end_pass-requires
unfolding renewed
end_pass-requires c = rw c.renew-next.ensures c.requires
