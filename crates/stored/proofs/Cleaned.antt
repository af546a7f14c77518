-- A stored run, loaded, is what its waiting point uses of it.
use mathlib.Core.Path.{◌≡◌, refl, ◌∙◌, ap}
use Prim.Native.Nat.{ℕ, zero, suc, ◌+◌, ◌*◌, ◌%◌, ◌^◌, ◌<◌}
use native.Mathlib.Omega.{arith}
use mathlib.Core.Bool.{Bool, true, ◌&&◌, cond}
use mathlib.Core.List.{List, [], ◌∷◌}
use lib.Dec.{eqb}
use lib.ListN.{length, get_or}
use borrow.Author.Tests.{eq-eqb, le-leb}
use Rattle.triple.specs.declared.Triple.{Triple}
use Rattle.plan.specs.declared.Plan.{Plan}
use Rattle.plan.specs.Limits.{wants_samples}
use Rattle.plan.specs.Lawful.{is_lawful}
use Rattle.run.specs.declared.Body.{Body}
use Rattle.run.specs.declared.Run.{Run}
use Rattle.run.specs.declared.waiting.Waiting.{Waiting}
use Rattle.run.specs.declared.waiting.Waiting.TheVariants.{Epoch, Forward, Backward, Survey, Pass, Step, Tail, TailSample, Ended, Unknown}
use Rattle.run.specs.Limits.{numbering}
use Rattle.run.specs.Waiting.{at_number, index_number, stage_at, waits_at}
use Rattle.run.specs.Sound.{is_idle, pass_counts, is_started_up, step_counts, has_counts, is_sound}
use Rattle.run.proofs.Decoding.{read}
use Rattle.run.proofs.Counts.{to_facts}
use Rattle.blocks.specs.Rows.{row}
use Rattle.blocks.specs.Blocks.{written}
use Rattle.blocks.specs.Trips.{Below}
use Rattle.blocks.proofs.Filled.{length_row, same_row}
use Rattle.blocks.proofs.Trips.{written_is_read}
use Rattle.stored.specs.Layout.{line, uses_of, triple_used, used, triples_of, component, float_no}
use Rattle.stored.specs.Content.{counts_in, content_word, content_from, content_of_run}
use Rattle.stored.specs.Taken.{triple_at, triples_in, counts_at, body_from, run_of, is_known, unused_is_zero, is_stored_run}
use Rattle.stored.specs.Stored.{stored_in, taken_up, judged, loaded}
use Rattle.stored.specs.Trips.{Floats, kept_float, kept_triple, cleaned, StoredIsLoaded}
use Rattle.stored.proofs.Small.{Modest, modest, flag_small}
use Rattle.stored.proofs.Words.{head_at, count_at, zero_word, float_is, small_words, all_zero}
use Rattle.stored.proofs.Heads.{head_for, Fits, head_is, head_fits}

-- ---- answer 7 looks at the counts
counts_same : (w : Waiting) (e : ℕ) (b : Body) (f : List Triple)
    → has_counts w e (body_from f (b.plan.settings.max_corrector_iters ∷ b.plan.settings.max_startup_iters ∷ b.plan.settings.max_steps ∷ b.startup_iters ∷ b.track.steps ∷ e ∷ []) b.plan.settings.samples) ≡ has_counts w e b
unfolding has_counts is_idle pass_counts is_started_up step_counts wants_samples body_from
counts_same Epoch e b f = refl
counts_same (Forward i s) e b f = refl
counts_same (Backward i s) e b f = refl
counts_same (Survey i) e b f = refl
counts_same (Pass i) e b f = refl
counts_same (Step n) e b f = refl
counts_same (Tail s) e b f = refl
counts_same TailSample e b f = refl
counts_same Ended e b f = refl
counts_same Unknown e b f = refl

-- and at the plan, which every waiting point uses whole
plan_same : (run : Run) → (cleaned run).body.plan ≡ run.body.plan
unfolding cleaned body_from row kept_triple kept_float used triple_used triples_of float_no component counts_in
plan_same run = refl

pub sound_same : (run : Run) → is_sound (cleaned run) ≡ is_sound run
unfolding is_sound cleaned counts_in body_from
sound_same run =
    let w = waits_at run.mark in
    let numbered = eqb run.mark.count.number (run.mark.count.evals % numbering) in
    let z : is_sound (cleaned run) ≡ (is_lawful (cleaned run).body.plan && numbered && has_counts w run.mark.count.evals run.body) =
    rw (read w run.mark.count) (unfold body_from in ap (λ (x : Bool). is_lawful (cleaned run).body.plan && numbered && x) (counts_same (waits_at run.mark) run.mark.count.evals run.body (row (kept_triple (uses_of (waits_at run.mark)) (triples_of run.body)) 41))) in
    z ∙ ap (λ (p : Plan). is_lawful p && numbered && has_counts w run.mark.count.evals run.body) (plan_same run)

-- ---- the round trip
index_kept : (w : Waiting) → index_number w ≡ cond (uses_of w).index (index_number w) 0
unfolding uses_of line
index_kept Epoch = refl
index_kept (Forward i s) = refl
index_kept (Backward i s) = refl
index_kept (Survey i) = refl
index_kept (Pass i) = refl
index_kept (Step n) = refl
index_kept (Tail s) = refl
index_kept TailSample = refl
index_kept Ended = refl
index_kept Unknown = refl

stage_kept : (w : Waiting) → stage_at w ≡ cond (uses_of w).stage (stage_at w) 0
unfolding uses_of line
stage_kept Epoch = refl
stage_kept (Forward i s) = refl
stage_kept (Backward i s) = refl
stage_kept (Survey i) = refl
stage_kept (Pass i) = refl
stage_kept (Step n) = refl
stage_kept (Tail s) = refl
stage_kept TailSample = refl
stage_kept Ended = refl
stage_kept Unknown = refl

module _ (run : Run) (sound : is_sound run ≡ true) (floats : Floats run) where
  abbrev w : Waiting
  w = waits_at run.mark

  abbrev s : ℕ
  s = run.body.plan.settings.samples

  abbrev head : List ℕ
  head = head_for w run.mark.count s

  abbrev c : List ℕ
  c = content_from head (uses_of w) (triples_of run.body) (counts_in run)

  content_is : content_of_run run ≡ c
  unfolding content_of_run
  content_is = ap (λ (h : List ℕ). content_from h (uses_of w) (triples_of run.body) (counts_in run)) (head_is run s sound)

  triples_are : triples_in c ≡ row (kept_triple (uses_of w) (triples_of run.body)) 41
  unfolding triples_in triple_at kept_triple
  triples_are =
      same_row (triple_at c) (kept_triple (uses_of w) (triples_of run.body)) 41
      (λ (q : ℕ) (h : q < 41).
      let x = float_is head (uses_of w) (triples_of run.body) (counts_in run) (3 * q) (omega arith) (floats (3 * q) (omega arith)) in
      let y = float_is head (uses_of w) (triples_of run.body) (counts_in run) (3 * q + 1) (omega arith) (floats (3 * q + 1) (omega arith)) in
      let z = float_is head (uses_of w) (triples_of run.body) (counts_in run) (3 * q + 2) (omega arith) (floats (3 * q + 2) (omega arith)) in
      rw (x, y, z))

  head_word : (j : ℕ) → j < 6 → get_or c j 0 ≡ get_or head j 0
  head_word = head_at head (uses_of w) (triples_of run.body) (counts_in run)

  count_word : (i : ℕ) → i < 6 → get_or c (252 + i) 0 ≡ get_or (counts_in run) i 0
  count_word = count_at head (uses_of w) (triples_of run.body) (counts_in run)

  counts_are : counts_at c ≡ counts_in run
  unfolding counts_at counts_in
  counts_are =
      let a = count_word 0 (omega arith) in
      let b = count_word 1 (omega arith) in
      let d = count_word 2 (omega arith) in
      let e = count_word 3 (omega arith) in
      let f = count_word 4 (omega arith) in
      let g = count_word 5 (omega arith) in
      rw (a, b, d, e, f, g)

  run_is : run_of c ≡ cleaned run
  unfolding run_of cleaned
  run_is =
      let a : get_or c 1 0 ≡ at_number w = head_word 1 (omega arith) in
      let i : get_or c 2 0 ≡ index_number w = head_word 2 (omega arith) in
      let t : get_or c 3 0 ≡ stage_at w = head_word 3 (omega arith) in
      let n : get_or c 4 0 ≡ run.mark.count.number = head_word 4 (omega arith) in
      let f : get_or c 5 0 ≡ s = head_word 5 (omega arith) in
      let e : get_or c 257 0 ≡ run.mark.count.evals = unfold counts_in in count_word 5 (omega arith) in
      rw (a, i, t, n, f, e, triples_are, counts_are)

  is_known_lem : is_known c ≡ true
  unfolding is_known
  is_known_lem =
      let z : get_or c 0 0 ≡ 1 = head_word 0 (omega arith) in
      let a : get_or c 1 0 ≡ at_number w = head_word 1 (omega arith) in
      let i : get_or c 2 0 ≡ index_number w = head_word 2 (omega arith) in
      let t : get_or c 3 0 ≡ stage_at w = head_word 3 (omega arith) in
      let n : get_or c 4 0 ≡ run.mark.count.number = head_word 4 (omega arith) in
      let f : get_or c 5 0 ≡ s = head_word 5 (omega arith) in
      let fit = head_fits run sound in
      let m = (to_facts run sound).numbered in
      rw (z, a, i, t, n, f, le-leb 1 _ fit.some, le-leb _ 8 fit.at, le-leb _ 255 fit.index, le-leb _ 255 fit.stage, le-leb run.mark.count.number 65535 (omega arith), le-leb s 1 (flag_small run sound))

  is_small : Below (2 ^ 32) c
  is_small = small_words head (uses_of w) (triples_of run.body) (counts_in run) heads floats nums
    where
      fit : Fits w
      fit = head_fits run sound

      heads : (j : ℕ) → j < 6 → get_or head j 0 < 2 ^ 32
      heads zero h = omega arith
      heads (suc zero) h = omega (arith, fit.at)
      heads (suc (suc zero)) h = omega (arith, fit.index)
      heads (suc (suc (suc zero))) h = omega (arith, fit.stage)
      heads (suc (suc (suc (suc zero)))) h = omega (arith, (to_facts run sound).numbered)
      heads (suc (suc (suc (suc (suc zero))))) h = omega (arith, flag_small run sound)
      heads (suc (suc (suc (suc (suc (suc j)))))) h = absurd (omega arith)

      nums : (i : ℕ) → i < 6 → get_or (counts_in run) i 0 < 2 ^ 32
      nums = unfold counts_in in nums_of
        where
          m : Modest run
          m = modest run sound

          nums_of : (i : ℕ) → i < 6 → get_or (run.body.plan.settings.max_corrector_iters ∷ run.body.plan.settings.max_startup_iters ∷ run.body.plan.settings.max_steps ∷ run.body.startup_iters ∷ run.body.track.steps ∷ run.mark.count.evals ∷ []) i 0 < 2 ^ 32
          nums_of zero h = omega (arith, m.correctors)
          nums_of (suc zero) h = omega (arith, m.startups)
          nums_of (suc (suc zero)) h = omega (arith, m.most)
          nums_of (suc (suc (suc zero))) h = omega (arith, m.passes)
          nums_of (suc (suc (suc (suc zero)))) h = omega (arith, m.steps)
          nums_of (suc (suc (suc (suc (suc zero))))) h = omega (arith, m.evals)
          nums_of (suc (suc (suc (suc (suc (suc i)))))) h = absurd (omega arith)

  zeros : unused_is_zero c (uses_of w) 504 ≡ true
  zeros = all_zero c (uses_of w) (zero_word head (uses_of w) (triples_of run.body) (counts_in run) (index_kept w) (stage_kept w)) 504 (omega arith)

  length_is : length c ≡ 504
  unfolding content_from
  length_is = length_row (content_word head (uses_of w) (triples_of run.body) (counts_in run)) 504

  stored_run : is_stored_run c ≡ true
  unfolding is_stored_run cleaned
  stored_run = rw (is_known_lem, run_is) (rw (read w run.mark.count) (rw zeros (sound_same run ∙ sound)))

pub stored_is_loaded : StoredIsLoaded
unfolding stored_in written loaded judged
stored_is_loaded held run out t floats e =
    let a = written_is_read (c run t floats) (length_is run t floats) (is_small run t floats) in
    rw (t, eq-eqb _ _ e, content_is run t floats, a.whole, a.same, stored_run run t floats) (ap taken_up (run_is run t floats))
