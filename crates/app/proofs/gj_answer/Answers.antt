-- `gj_answer`: each of the fast path's two ways is what `answered` gives.
use mathlib.Core.Path.{◌∙◌}
use Rattle.app.proofs.SameReply.{again_reply, on_reply}
use Rattle.app.proofs.gj_answer.Goals as goal

pub returns-in-Again : goal.returns-in-Again
returns-in-Again c =
    let h = again_reply c.args.run.now c.args.number c.args.a c.args.from c.args.out.now c.in-Again.mark c.in-Again.state c.in-Again.ensures in
    (c.try_again.ensures.0 ∙ h.0, c.try_again.ensures.1 ∙ h.1, h.2)

pub returns-in-On : goal.returns-in-On
returns-in-On c =
    let h = on_reply c.args.run.now c.args.number c.args.a c.args.from c.args.out.now c.in-On.mark c.in-On.state c.in-On.steps c.in-On.ensures in
    (c.step_on.ensures.0 ∙ h.0, c.step_on.ensures.1 ∙ h.1, c.step_on.ensures.2 ∙ h.2)
