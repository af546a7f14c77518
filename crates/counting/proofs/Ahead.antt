-- On through a tree to the next question or the end, where the samples come in order and have their place: the samples due on the way, and
-- what is reached.
use mathlib.Core.Path.{◌≡◌, refl, sym, ap, subst, ◌∙◌}
use Prim.Native.Nat.{ℕ, ◌+◌}
use native.Mathlib.Nat.{add-zero}
use native.Mathlib.Omega.{arith}
use mathlib.Core.Bool.{Bool, true, cond}
use mathlib.Core.List.{List, [], ◌∷◌, ◌++◌}
use lib.ListN.{length, length-append}
use lib.Ieee.{Float}
use Rattle.triple.specs.declared.Triple.{Triple}
use Rattle.triple.specs.declared.State.{State}
use Rattle.triple.specs.declared.Point.{Point}
use Rattle.triple.specs.declared.Sample.{Sample}
use Rattle.plan.specs.declared.Plan.{Plan}
use Rattle.run.specs.Samples.{Room, has_room, put, put_all}
use Rattle.run.proofs.Placing.{room_put_all, room_within}
use Rattle.rules.specs.Rules.{Course, asks, stores, ends, exceeds}
use Rattle.rules.specs.Asked.{due, AsListed}
use Rattle.rules.specs.Walk.{Said, question, finished, refused, Line, open_at, over, Stop, after_storing, settle}
use Rattle.counting.specs.Paths.{Claims, Each, Always}
use Rattle.counting.specs.Rooms.{Holds}

-- ---- rows of samples, one after the other
pub put_more : (n m : ℕ) (ss rs : List Sample) (out : Room) → n + length ss ≡ m → put_all m rs (put_all n ss out) ≡ put_all n (ss ++ rs) out
unfolding put_all
put_more n m [] rs out e = let f : m ≡ n = omega arith in ap (λ (i : ℕ). put_all i rs out) f
put_more n m (s ∷ ss) rs out e = put_more (n + 1) m ss rs (put n s out) (omega arith)

each_more : (P : ℕ → Float → Type 0) (n m : ℕ) (ss rs : List Sample) → n + length ss ≡ m → Each P n ss → Each P m rs → Each P n (ss ++ rs)
unfolding Each
each_more P n m [] rs e h k = let f : m ≡ n = omega arith in subst (λ (i : ℕ). Each P i rs) f k
each_more P n m (s ∷ ss) rs e h k = (h.0, each_more P (n + 1) m ss rs (omega arith) h.1 k)

-- ---- what is ahead in a tree
pub data Reached : Type 0 where
  a_question : Point → (Triple → Course) → Reached
  the_end : Float → State → ℕ → ℕ → Reached
  the_limit : Reached

unfoldable pub reached : Course → Reached
reached (asks q k) = a_question q k
reached (stores n ss t) = reached t
reached (ends t y steps startups) = the_end t y steps startups
reached exceeds = the_limit

unfoldable pub samples_ahead : Course → List Sample
samples_ahead (asks q k) = []
samples_ahead (stores n ss t) = ss ++ samples_ahead t
samples_ahead (ends t y steps startups) = []
samples_ahead exceeds = []

pub count_ahead : (t : Course) → length (samples_ahead t) ≡ due t
unfolding samples_ahead due
count_ahead (asks q k) = refl
count_ahead (stores n ss t) = let d = count_ahead t in let l = length-append ss (samples_ahead t) in omega arith
count_ahead (ends t y steps startups) = refl
count_ahead exceeds = refl

-- the tree from there
abbrev pub from_there : Reached → Course
from_there (a_question q k) = asks q k
from_there (the_end t y steps startups) = ends t y steps startups
from_there the_limit = exceeds

-- what is told there, and how the line stands: question i is the next one, after e answers
abbrev said_at : Reached → (i e : ℕ) → Said
said_at (a_question q k) i e = question i q
said_at (the_end t y steps startups) i e = finished t y e steps startups
said_at the_limit i e = refused 2

abbrev line_at : Reached → (i e : ℕ) → Line
line_at (a_question q k) i e = open_at i e q k
line_at (the_end t y steps startups) i e = over
line_at the_limit i e = over

-- the stop there, after m samples
abbrev pub stop_at : Reached → (i e m : ℕ) → Room → Stop
stop_at x i e m out = record { said = said_at x i e; stored = m; out = out; line = line_at x i e }

-- ---- what is written leaves the room as large as it was
still_holds : (j : ℕ) (ss : List Sample) (out : Room) (k : Course) → Holds out k → Holds (put_all j ss out) k
unfolding Holds
still_holds j ss out (asks q k) h = tt
still_holds j ss out (stores n rs k) h = (room_put_all n (length rs) j ss out ∙ h.0, still_holds j ss out k h.1)
still_holds j ss out (ends t y steps startups) h = tt
still_holds j ss out exceeds h = tt

module _ (c : Claims) where
  -- a room with place for as many as are due
  pub due_holds : (e n : ℕ) (k : Course) (out : Room) → Always c e n k → has_room n (due k) out ≡ true → Holds out k
  unfolding Holds Always due
  due_holds e n (asks q k) out h r = tt
  due_holds e n (stores j ss k) out h r =
      let q = h.0 in (
        room_within n (length ss + due k) j (length ss) out (omega arith) (omega arith) r,
        due_holds e (n + length ss) k out h.2 (room_within n (length ss + due k) (n + length ss) (due k) out (omega arith) (omega arith) r),
      )
  due_holds e n (ends t y steps startups) out h r = tt
  due_holds e n exceeds out h r = tt

  -- the claims hold of the samples on the way, and on from there
  pub always_ahead : (e n : ℕ) (t : Course) → Always c e n t → Each c.sample n (samples_ahead t) × Always c e (n + length (samples_ahead t)) (from_there (reached t))
  unfolding samples_ahead reached Always Each
  always_ahead e n (asks q k) h = (tt, subst (λ (m : ℕ). (a : Triple) → Always c (e + 1) m (k a)) (sym (add-zero n)) h)
  always_ahead e n (stores j ss t) h =
      let x = always_ahead e (n + length ss) t h.2 in (
        each_more c.sample n (n + length ss) ss (samples_ahead t) refl h.1 x.0,
        subst (λ (m : ℕ). Always c e m (from_there (reached t))) (sym (let l = length-append ss (samples_ahead t) in omega arith)) x.1,
      )
  always_ahead e n (ends t y steps startups) h = (tt, subst (λ (m : ℕ). c.finish e m t steps startups) (sym (add-zero n)) h)
  always_ahead e n exceeds h = (tt, subst (λ (m : ℕ). c.excess e m) (sym (add-zero n)) h)

  -- a call goes on to there, and writes just these samples
  pub settles : (i e n : ℕ) (t : Course) (out : Room) → Always c e n t → Holds out t → settle t i e out ≡ stop_at (reached t) i e (length (samples_ahead t)) (put_all n (samples_ahead t) out)
  unfolding settle after_storing samples_ahead reached Always Holds put_all
  settles i e n (asks q k) out h r = refl
  settles i e n (stores j ss t) out h r =
      ap (λ (b : Bool). cond b (after_storing (length ss) (settle t i e (put_all j ss out))) (record { said = refused 6; stored = 0; out = out; line = over })) r.0
      ∙ ap (after_storing (length ss)) (settles i e (n + length ss) t (put_all j ss out) h.2 (still_holds j ss out t r.1))
      ∙ ap (λ (m : ℕ). stop_at (reached t) i e m (put_all (n + length ss) (samples_ahead t) (put_all j ss out))) (sym (length-append ss (samples_ahead t)))
      ∙ ap (λ (m : ℕ). stop_at (reached t) i e (length (ss ++ samples_ahead t)) (put_all (n + length ss) (samples_ahead t) (put_all m ss out))) h.0
      ∙ ap (stop_at (reached t) i e (length (ss ++ samples_ahead t))) (put_more n (n + length ss) ss (samples_ahead t) out refl)
  settles i e n (ends t y steps startups) out h r = refl
  settles i e n exceeds out h r = refl

pub listed_ahead : (p : Plan) (t : Course) → AsListed p t → AsListed p (from_there (reached t))
unfolding reached AsListed
listed_ahead p (asks q k) h = h
listed_ahead p (stores j ss t) h = listed_ahead p t h
listed_ahead p (ends t y steps startups) h = tt
listed_ahead p exceeds h = tt
