-- At the head of the steps: what is counted so far, and that the fate lies ahead.
use mathlib.Core.Path.{◌≡◌, sym, ap, ◌∙◌, subst}
use Prim.Native.Nat.{ℕ, zero, suc, ◌+◌, ◌-◌, ◌*◌, ◌≤◌}
use native.Mathlib.Omega.{arith}
use mathlib.Core.Bool.{Bool, true, false, cond}
use mathlib.Core.List.{[], ◌∷◌}
use lib.Ieee.{Float, binary64, add}
use borrow.Author.Tests.{le-ltb, ne_eqb}
use Rattle.triple.specs.declared.Sample.{Sample}
use Rattle.startup.specs.Points.{time_at}
use Rattle.plan.specs.declared.Plan.{Plan}
use Rattle.plan.specs.Limits.{wants_samples}
use Rattle.conditions.specs.Conditions.{is_due, is_tail}
use Rattle.rules.specs.Rules.{Course, stores}
use Rattle.rules.specs.Asked.{clock}
use Rattle.counting.specs.Paths.{Claims, Each, Always}
use Rattle.counting.specs.Clockwork.{Fate, arrives, tails, runs_out, fate_from, steps_of, plain_steps, tail_answers, least, most, fewest_startups, NeverStops, Counted, grid_time, sample_time}

-- ---- at the head of the loop, j steps after the startup
pub record Running (p : Plan) (e j startups : ℕ) : Type 0 where
  pub fewest : fewest_startups p ≤ startups
  pub limited : startups ≤ p.settings.max_startup_iters
  pub low : 41 + 8 * startups + j ≤ e
  pub high : e ≤ 41 + 8 * startups + j * (1 + p.settings.max_corrector_iters)
  pub exactly : NeverStops p → (startups ≡ p.settings.max_startup_iters) × (e ≡ 41 + 8 * startups + j * (1 + p.settings.max_corrector_iters))

-- so many samples are stored, if they are wanted
unfoldable pub kept : Plan → ℕ → ℕ
kept p n = cond (wants_samples p.settings) n 0

pub kept_all : (p : Plan) (n : ℕ) → wants_samples p.settings ≡ true → kept p n ≡ n
unfolding kept
kept_all p n h = ap (λ (b : Bool). cond b n 0) h

pub kept_none : (p : Plan) (n : ℕ) → wants_samples p.settings ≡ false → kept p n ≡ 0
unfolding kept
kept_none p n h = ap (λ (b : Bool). cond b n 0) h

pub stored : (c : Claims) (e n n' i : ℕ) (s : Sample) (k : Course) → i ≡ n → n' ≡ n + 1 → c.sample i s.t → Always c e n' k → Always c e n (stores i (s ∷ []) k)
unfolding Always Each
stored c e n n' i s k h g x a = (h, (subst (λ (m : ℕ). c.sample m s.t) h x, tt), subst (λ (m : ℕ). Always c e m k) g a)

-- ---- the fate lies ahead: it has n steps at least, and up to there the samples stand where the clock stands
abbrev pub Ahead : ℕ → Fate → Type 0
Ahead n (arrives t m) = n ≤ m
Ahead n (tails m) = n ≤ m
Ahead n (runs_out m) = n ≤ m

pub nearer : (i n : ℕ) (f : Fate) → i ≤ n → Ahead n f → Ahead i f
nearer i n (arrives t m) l h = omega arith
nearer i n (tails m) l h = omega arith
nearer i n (runs_out m) l h = omega arith

pub ahead : (left : ℕ) (p : Plan) (t : Float) (n : ℕ) → Ahead n (fate_from left p t n)
unfolding fate_from
ahead zero p t n = go (is_due p t)
  where
    go : (b : Bool) → Ahead n (cond b (runs_out n) (arrives t n))
    go true = omega arith
    go false = omega arith
ahead (suc left) p t n = go (is_due p t) (is_tail p t) (nearer n (n + 1) (fate_from left p (add binary64 t p.h) (n + 1)) (omega arith) (ahead left p (add binary64 t p.h) (n + 1)))
  where
    go : (b s : Bool) → Ahead n (fate_from left p (add binary64 t p.h) (n + 1))
        → Ahead n (cond b (cond s (tails n) (fate_from left p (add binary64 t p.h) (n + 1))) (arrives t n))
    go true true h = omega arith
    go true false h = h
    go false s h = omega arith

-- sample n, with n steps or more ahead
pub on_grid : (p : Plan) (f : Fate) (n : ℕ) (t : Float) → Ahead n f → t ≡ grid_time p n → (n ≤ steps_of f) × (t ≡ sample_time p f n)
unfolding steps_of sample_time
on_grid p (arrives u m) n t h e = (h, e)
on_grid p (tails m) n t h e = (omega arith, e ∙ sym (ap (λ (b : Bool). cond b p.tf (grid_time p n)) (ne_eqb n (m + 1) (λ (x : n ≡ m + 1). omega arith))))
on_grid p (runs_out m) n t h e = (h, e)

pub clock_grid : (p : Plan) (j : ℕ) → clock p j ≡ grid_time p (4 + j)
unfolding grid_time
clock_grid p j =
    let e : 4 + j - 4 ≡ j = omega arith in
    sym (ap (λ (b : Bool). cond b (time_at p.t0 p.h (4 + j + 4)) (clock p (4 + j - 4))) (le-ltb (4 + j) 4 (omega arith)) ∙ ap (clock p) e)

-- the counts at the head, and the tail's answers, are the counts at the end
pub counted : (p : Plan) (f : Fate) (e e' n j startups : ℕ) → plain_steps f ≡ j → e' ≡ e + tail_answers p f → n ≡ kept p (steps_of f + 1) → Running p e j startups → Counted p f e' n startups
unfolding least most kept
counted p f e e' n j startups h g k r =
    let l = r.low in
    let u = r.high in
    let x : plain_steps f * (1 + p.settings.max_corrector_iters) ≡ j * (1 + p.settings.max_corrector_iters) = ap (λ (i : ℕ). i * (1 + p.settings.max_corrector_iters)) h in
    record {
      fewest = r.fewest;
      limited = r.limited;
      at_least = omega arith;
      at_most = omega arith;
      samples = k;
      exactly = λ (s : NeverStops p). let y = r.exactly s in let z = y.1 in (y.0, omega arith);
    }
