-- `put_bytes` puts the bytes of a word, one beside another.
use Rattle.std.proofs.Common.{◌∙◌, refl}
use Rattle.lines.specs.Words.{bytes_of}
use Rattle.lines.proofs.Over.{over_middle}
use Rattle.lines.proofs.Fields.{eight_bytes}
use Rattle.lines.proofs.word.put_bytes.Goals as goal

pub returns : goal.returns
unfolding bytes_of
returns c =
    let args = c.args in
    over_middle args.at 8 (bytes_of 8 args.w) c.copy_from_slice.new.self args.out.now
    (c.copy_from_slice.ensures.after ∙ c.to_le_bytes.ensures ∙ eight_bytes args.w) refl c.requires
