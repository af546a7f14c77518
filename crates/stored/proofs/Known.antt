-- What `is_known` says.
use mathlib.Core.Path.{◌≡◌}
use Prim.Native.Nat.{ℕ, ◌≤◌}
use mathlib.Core.Bool.{true}
use mathlib.Core.List.{List}
use lib.Dec.{eqb, leb}
use lib.ListN.{get_or}
use borrow.Author.Tests.{eqb-true, leb-true}
use Rattle.blocks.proofs.Whole.{both}
use Rattle.stored.specs.Taken.{is_known}

pub record Known (c : List ℕ) : Type 0 where
  pub form : get_or c 0 0 ≡ 1
  pub some : 1 ≤ get_or c 1 0
  pub at : get_or c 1 0 ≤ 8
  pub index : get_or c 2 0 ≤ 255
  pub stage : get_or c 3 0 ≤ 255
  pub number : get_or c 4 0 ≤ 65535
  pub flag : get_or c 5 0 ≤ 1

pub known : (c : List ℕ) → is_known c ≡ true → Known c
unfolding is_known
known c t =
    let f = both _ (leb (get_or c 5 0) 1) t in
    let n = both _ (leb (get_or c 4 0) 65535) f.0 in
    let s = both _ (leb (get_or c 3 0) 255) n.0 in
    let i = both _ (leb (get_or c 2 0) 255) s.0 in
    let a = both _ (leb (get_or c 1 0) 8) i.0 in
    let o = both (eqb (get_or c 0 0) 1) (leb 1 (get_or c 1 0)) a.0 in
    record {
      form = eqb-true _ _ o.0;
      some = leb-true _ _ o.1;
      at = leb-true _ _ a.1;
      index = leb-true _ _ i.1;
      stage = leb-true _ _ s.1;
      number = leb-true _ _ n.1;
      flag = leb-true _ _ f.1;
    }
