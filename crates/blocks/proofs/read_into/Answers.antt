-- `read_into`.
use Rattle.std.proofs.Common.{refl, ◌∙◌, eq-eqb, ne_eqb}
use Rattle.blocks.specs.Blocks.{is_whole, taken}
use Rattle.blocks.proofs.read_into.Goals as goal

pub returns-in_default : goal.returns-in_default
unfolding is_whole taken
returns-in_default c = let e = ne_eqb _ _ c.in_default.ensures.cases in record { value = simp e; content_after = simp e }

pub returns : goal.returns
unfolding taken
returns c =
    let h = c.in-Some.ensures.cases in
    let e = eq-eqb _ _ h.long in record {
      value = c.read_form.ensures.value ∙ rw h.same refl;
      content_after = rw e (c.read_form.ensures.content_after ∙ rw h.same refl);
    }
