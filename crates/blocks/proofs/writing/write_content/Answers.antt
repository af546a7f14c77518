-- `write_content` puts the words of a block's content and adds them up.
use Rattle.std.proofs.Common.{◌≡◌, ℕ, suc, ◌+◌, ◌*◌, List, get_or, sym, refl, ap, ◌∙◌, add-one, arith, rules}
use Rattle.blocks.specs.Words.{put_word, put_words}
use Rattle.blocks.specs.Blocks.{block_word, check, form_word}
use Rattle.blocks.proofs.Words.{length_put, check_more, puts_more}
use Rattle.blocks.proofs.writing.write_content.Goals as goal

pub loop-j-init : goal.loop-j-init
unfolding check block_word put_words
loop-j-init c = record { room = search rules; sum = omega arith; put = refl }

pub loop-j-preserved : goal.loop-j-preserved
loop-j-preserved c =
    let args = c.args in
    let word = form_word args.content.now in
    let put = c.put_word.ensures in
    let e : suc c.loop-j.j ≡ c.loop-j.j + 1 = omega arith in record {
      room = simp (put, length_put) (search rules);
      sum = rw add-one (let h = check_more args.content.now args.b c.loop-j.j in cc);
      put = put
          ∙ ap (λ (l : List ℕ). put_word l (128 * args.b + 1 + c.loop-j.j) (get_or args.content.now (126 * args.b + c.loop-j.j) 0)) c.loop-j.invariant.put
          ∙ sym (puts_more args.content.now args.b c.loop-j.j args.out.now (omega arith))
          ∙ ap (λ (n : ℕ). put_words word (128 * args.b + 1) n args.out.now) e;
    }

pub returns : goal.returns
returns c = let e : c.loop-j.j ≡ 126 = omega arith in record { value = cc; out_after = cc }
