-- Which rooms have the samples due at each call: one for all of them, and one for the next five.
use Rattle.std.proofs.Common.{Ok, Err}
use mathlib.Core.Path.{◌≡◌, sym, subst}
use Prim.Native.Nat.{ℕ, ◌+◌, ◌-◌, ◌*◌, ◌%◌, ◌≤◌}
use native.Mathlib.Nat.{add-zero}
use native.Mathlib.Omega.{arith}
use mathlib.Core.Bool.{Bool, true, false, cond}
use mathlib.Core.List.{List, [], ◌∷◌}
use lib.Dec.{eqb}
use lib.IntN.{ℤ, nat_abs}
use lib.ListN.{length}
use lib.Ieee.{Float}
use borrow.Author.Tests.{le-leb}
use Rattle.triple.specs.declared.Triple.{Triple}
use Rattle.triple.specs.declared.Point.{Point}
use Rattle.triple.specs.declared.Sample.{Sample}
use Rattle.triple.specs.Sampled.{sample_width}
use Rattle.plan.specs.declared.Settings.{Settings}
use Rattle.plan.specs.declared.Plan.{Plan}
use Rattle.plan.specs.Plan.{plan_of}
use Rattle.plan.specs.Verdict.{Verdict, verdict_on}
use Rattle.run.specs.Limits.{numbering}
use Rattle.run.specs.Samples.{Room, is_placed, has_room, put_all}
use Rattle.run.proofs.Placing.{room_within}
use Rattle.rules.specs.Rules.{Course, asks, stores, ends, exceeds, integrate}
use Rattle.rules.specs.Asked.{due, AsListed}
use Rattle.rules.specs.Walk.{refused, Call, Line, open_at, over, Stop, after_storing, no_room, settle, called, begin_by, begin}
use Rattle.rules.proofs.Asked.{asks_as_listed}
use Rattle.counting.specs.Paths.{Claims, Always}
use Rattle.counting.specs.Clockwork.{clockwork, fate_of}
use Rattle.counting.specs.Counting.{span_of, Bounds, on_time, most_before}
use Rattle.counting.specs.Rooms.{Holds, RoomAt, Roomy, Ample, room_for, RoomForAll, FiveMore, FiveSuffice, FiftyNumbers}
use Rattle.counting.proofs.Marching.{by_the_clock}
use Rattle.counting.proofs.OnTime.{ends_on_time}
use Rattle.counting.proofs.Ahead.{due_holds}
use Rattle.counting.proofs.Lines.{under}
use Rattle.counting.proofs.Runs.{limits}
use Rattle.counting.proofs.Starts.{accepted_start}

-- ---- what holds along a tree holds where a line of calls stands in it: after e answers and n samples
module _ (T : (e n : ℕ) → Course → Type 0)
    (asked : (e n : ℕ) (q : Point) (k : Triple → Course) → T e n (asks q k) → (a : Triple) → T (e + 1) n (k a))
    (stored : (e n j : ℕ) (ss : List Sample) (k : Course) → T e n (stores j ss k) → T e (n + length ss) k) where
  unfoldable Stands : (n : ℕ) → Line → Type 0
  Stands n (open_at i e q k) = (a : Triple) → T (e + 1) n (k a)
  Stands n over = Unit {0}

  settled_stands : (i e n : ℕ) (k : Course) (out : Room) → T e n k → Stands (n + (settle k i e out).stored) (settle k i e out).line
  unfolding settle after_storing Stands
  settled_stands i e n (asks q k) out h = subst (λ (m : ℕ). (a : Triple) → T (e + 1) m (k a)) (sym (add-zero n)) (asked e n q k h)
  settled_stands i e n (stores j ss k) out h = go (has_room j (length ss) out) (settled_stands i e (n + length ss) k (put_all j ss out) (stored e n j ss k h))
    where
      s : Stop
      s = settle k i e (put_all j ss out)

      stop : Bool → Stop
      stop b = cond b (after_storing (length ss) s) (record { said = refused 6; stored = 0; out = out; line = over })

      go : (b : Bool) → Stands (n + length ss + s.stored) s.line → Stands (n + (stop b).stored) (stop b).line
      go true o = let f : n + length ss + s.stored ≡ n + (length ss + s.stored) = omega arith in subst (λ (m : ℕ). Stands m s.line) f o
      go false o = tt
  settled_stands i e n (ends t y steps startups) out h = tt
  settled_stands i e n exceeds out h = tt

  called_stands : (n : ℕ) (l : Line) (x : Call) → Stands n l → Stands (n + (called l x).stored) (called l x).line
  unfolding called Stands
  called_stands n (open_at i e q k) x o = go (eqb i x.number) (settled_stands ((i + 1) % numbering) (e + 1) n (k x.a) x.out (o x.a))
    where
      s : Stop
      s = settle (k x.a) ((i + 1) % numbering) (e + 1) x.out

      stop : Bool → Stop
      stop b = cond b s (record { said = refused 8; stored = 0; out = x.out; line = open_at i e q k })

      go : (b : Bool) → Stands (n + s.stored) s.line → Stands (n + (stop b).stored) (stop b).line
      go true u = u
      go false u = subst (λ (m : ℕ). (a : Triple) → T (e + 1) m (k a)) (sym (add-zero n)) o
  called_stands n over x o = tt

  -- a line of calls has room where P, which goes on along it, gives each call room for what is due at it
  module _ (P : (n : ℕ) → Line → List Call → Type 0)
      (here : (e n : ℕ) (l : Line) (k : Course) (x : Call) (cs : List Call) → T e n k → P n l (x ∷ cs) → Holds x.out k)
      (on : (n : ℕ) (l : Line) (x : Call) (cs : List Call) → P n l (x ∷ cs) → P (n + (called l x).stored) (called l x).line cs) where
    has_room_lem : (n : ℕ) (l : Line) (x : Call) (cs : List Call) → Stands n l → P n l (x ∷ cs) → RoomAt l x
    unfolding RoomAt Stands
    has_room_lem n (open_at i e q k) x cs o p = λ z. here (e + 1) n (open_at i e q k) (k x.a) x cs (o x.a) p
    has_room_lem n over x cs o p = tt

    roomy : (n : ℕ) (l : Line) (cs : List Call) → Stands n l → P n l cs → Roomy l cs
    unfolding Roomy
    roomy n l [] o p = tt
    roomy n l (x ∷ cs) o p = (has_room_lem n l x cs o p, roomy (n + (called l x).stored) (called l x).line cs (called_stands n l x o) (on n l x cs p))

always_asked : (c : Claims) (e n : ℕ) (q : Point) (k : Triple → Course) → Always c e n (asks q k) → (a : Triple) → Always c (e + 1) n (k a)
unfolding Always
always_asked c e n q k h = h

always_stored : (c : Claims) (e n j : ℕ) (ss : List Sample) (k : Course) → Always c e n (stores j ss k) → Always c e (n + length ss) k
unfolding Always
always_stored c e n j ss k h = h.2

over_roomy : (cs : List Call) → Roomy over cs
unfolding Roomy RoomAt called
over_roomy [] = tt
over_roomy (x ∷ cs) = (tt, over_roomy cs)

-- ---- one room for all samples
module _ {s : Settings} {t0 tf : Float} {z0 zf hz : ℤ} (b : Bounds s t0 tf z0 zf hz) (r0 v0 : Triple) where
  abbrev most : ℕ
  most = most_before s (span_of z0 zf) (nat_abs hz)

  abbrev all : ℕ
  all = room_for s (span_of z0 zf) (nat_abs hz)

  abbrev claims : Claims
  claims = on_time s t0 tf z0 zf (nat_abs hz)

  ample_here : (e n : ℕ) (l : Line) (k : Course) (x : Call) (cs : List Call) → Always claims e n k → Ample all (x ∷ cs) → Holds x.out k
  unfolding Ample
  ample_here e n l k x cs h r =
      let u : n + due k ≤ all = (under claims most all (limits b r0 v0) e n k h).1 in
      due_holds claims e n k x.out h (room_within 0 all n (due k) x.out (omega arith) (omega arith) r.0)

  ample_on : (n : ℕ) (l : Line) (x : Call) (cs : List Call) → Ample all (x ∷ cs) → Ample all cs
  unfolding Ample
  ample_on n l x cs r = r.1

  pub room_for_all : (cs : List Call) → Ample all cs → Roomy (begin s t0 tf r0 v0).line cs
  unfolding settle integrate Always Stands
  room_for_all cs r =
      let x = ends_on_time b r0 v0 in
      subst (λ (y : Stop). Roomy y.line cs) (sym (accepted_start s t0 tf r0 v0 x.accepted))
      (roomy (Always claims) (always_asked claims) (always_stored claims) (λ (n : ℕ) (l : Line) (cs : List Call). Ample all cs) ample_here ample_on 0 (settle (integrate (plan_of s t0 tf) r0 v0) 0 0 no_room).line cs x.always r)

pub each_has_room : RoomForAll
each_has_room s t0 tf z0 zf hz r0 v0 cs b r = room_for_all b r0 v0 cs r

-- ---- a small room, for any start at all
module _ (p : Plan) where
  abbrev c : Claims
  c = clockwork p (fate_of p)

  -- samples in order, at most five before the next question, and so on from there
  unfoldable Few : (e n : ℕ) → Course → Type 0
  Few e n k = Always c e n k × (due k ≤ 5) × AsListed p k

  few_asked : (e n : ℕ) (q : Point) (k : Triple → Course) → Few e n (asks q k) → (a : Triple) → Few (e + 1) n (k a)
  unfolding Few Always AsListed
  few_asked e n q k h a = (h.0 a, (h.2.1 a).0, (h.2.1 a).1)

  few_stored : (e n j : ℕ) (ss : List Sample) (k : Course) → Few e n (stores j ss k) → Few e (n + length ss) k
  unfolding Few Always AsListed due
  few_stored e n j ss k h = let u = h.1 in (h.0.2, omega arith, h.2)

  small_here : (e n : ℕ) (l : Line) (k : Course) (x : Call) (cs : List Call) → Few e n k → FiveMore n l (x ∷ cs) → Holds x.out k
  unfolding FiveMore Few
  small_here e n l k x cs h r =
      let u : due k ≤ 5 = h.1 in
      due_holds c e n k x.out h.0 (room_within n 5 n (due k) x.out (omega arith) (omega arith) r.0)

  small_on : (n : ℕ) (l : Line) (x : Call) (cs : List Call) → FiveMore n l (x ∷ cs) → FiveMore (n + (called l x).stored) (called l x).line cs
  unfolding FiveMore
  small_on n l x cs r = r.1

  small_begun : (v : Verdict) (r0 v0 : Triple) (cs : List Call) → FiveMore 0 (begin_by v p r0 v0).line cs → Roomy (begin_by v p r0 v0).line cs
  unfolding begin_by settle integrate Always AsListed due Stands Few
  small_begun (Ok u) r0 v0 cs r =
      roomy Few few_asked few_stored FiveMore small_here small_on 0 (settle (integrate p r0 v0) 0 0 no_room).line cs
      (λ (a : Triple). (by_the_clock p r0 v0 a, ((asks_as_listed p r0 v0).1 a).0, ((asks_as_listed p r0 v0).1 a).1)) r
  small_begun (Err e) r0 v0 cs r = over_roomy cs

pub five_suffice : FiveSuffice
unfolding begin
five_suffice s t0 tf r0 v0 cs r = small_begun (plan_of s t0 tf) (verdict_on (plan_of s t0 tf)) r0 v0 cs r

-- fifty numbers that begin at the next sample are such a room
pub fifty_numbers : FiftyNumbers
unfolding has_room is_placed
fifty_numbers n numbers h = rw (le-leb n n (omega arith), le-leb (sample_width * (n - n + 5)) (length numbers) (omega arith))
