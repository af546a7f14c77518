-- `write_form` leaves `form`: block after block.
use Rattle.std.proofs.Common.{◌≡◌, ℕ, ap, ◌+◌, ◌*◌, ◌∙◌, refl, arith, rules}
use Rattle.blocks.specs.Words.{put_words}
use Rattle.blocks.specs.Blocks.{form_word}
use Rattle.blocks.proofs.Words.{puts_on, form_put}
use Rattle.blocks.proofs.writing.write_form.Goals as goal

pub loop-b-init : goal.loop-b-init
unfolding put_words
loop-b-init c = record { room = search rules; put = refl }

pub loop-b-preserved : goal.loop-b-preserved
loop-b-preserved c =
    let b = c.loop-b.b in
    let word = form_word c.args.content.now in
    let e : 128 * (b + 1) ≡ 128 * b + 128 = omega arith in
    let z : 128 * b ≡ 0 + 128 * b = omega arith in record {
      room = c.write_block.array_long;
      put = rw (e, c.write_block.ensures, c.loop-b.invariant.put) (ap (λ (i : ℕ). put_words word i 128 (put_words word 0 (128 * b) c.args.out.now)) z ∙ puts_on word 0 (128 * b) 128 c.args.out.now);
    }

pub returns : goal.returns
returns c = let e : c.loop-b.b ≡ 4 = omega arith in c.loop-b.invariant.put ∙ rw e (form_put c.args.content.now c.args.out.now (search rules))
