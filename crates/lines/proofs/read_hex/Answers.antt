-- `read_hex` is `read_hex`.
use Rattle.std.proofs.Common.{sym, ◌∙◌, ap, ℕ, List, ◌+◌, ◌≤◌, length, arith}
use Rattle.std.specs.List.{slice_range}
use Rattle.lines.specs.Read.{number_read}
use Rattle.lines.proofs.Values.{no_hex, hex_there, sixteen_first}
use Rattle.lines.proofs.read_hex.Goals as goal

pub returns-in_err-get : goal.returns-in_err-get
returns-in_err-get c =
    let args = c.args in
    c.from_residual.ensures ∙ sym (no_hex args.text.now args.at (omega (arith, c.in_err-get.ensures.lookup.0)))

pub returns-in_err-get-2 : goal.returns-in_err-get-2
returns-in_err-get-2 c =
    let args = c.args in
    c.from_residual-in_err-get-2.ensures
    ∙ sym (no_hex args.text.now args.at (omega (arith, c.in_err-get-2.ensures.lookup.0, c.in_ok-get.ensures.lookup.0)))

pub returns : goal.returns
returns c =
    let text = c.args.text.now in
    let at = c.args.at in
    let h : at + 16 ≤ length text = omega (arith, c.in_ok-get-2.ensures.lookup.0, c.in_ok-get.ensures.lookup.0) in
    let first = ap (λ (l : List ℕ). slice_range l 0 16) c.in_ok-get.ensures.lookup.0.2 in
    c.sixteen.ensures
    ∙ ap number_read (c.in_ok-get-2.ensures.lookup.0.2 ∙ first ∙ sixteen_first text at h)
    ∙ sym (hex_there text at h)
