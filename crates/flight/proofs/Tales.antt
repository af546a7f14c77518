-- A flight and the story that is left of it.
use mathlib.Core.Path.{◌≡◌, refl, sym, ap, subst, ◌∙◌}
use mathlib.Core.Logic.{◌⊎◌, inl, inr}
use Prim.Native.Nat.{ℕ, ◌+◌, ◌-◌, ◌*◌, ◌≤◌}
use native.Mathlib.Omega.{arith}
use mathlib.Core.Bool.{false}
use mathlib.Core.List.{List}
use lib.ListN.{length}
use lib.Ieee.{Float}
use Rattle.std.specs.Prelude.{Ok, Err}
use Rattle.triple.specs.declared.Triple.{Triple}
use Rattle.triple.specs.declared.Point.{Point}
use Rattle.triple.specs.declared.Sample.{Sample}
use Rattle.triple.specs.Sampled.{sample_width}
use Rattle.refusals.specs.declared.Refusal.{Refusal}
use Rattle.refusals.specs.Numbers.{number_of}
use Rattle.plan.specs.declared.Plan.{Plan}
use Rattle.run.specs.Samples.{tens, put_all}
use Rattle.gauss_jackson.specs.declared.Question.{Question}
use Rattle.gauss_jackson.specs.declared.Answered.{Answered}
use Rattle.gauss_jackson.specs.declared.Outcome.{Outcome}
use Rattle.gauss_jackson.specs.declared.Outcome.TheVariants.{Ask, Done, Refused}
use Rattle.rules.specs.Rules.{Course, asks}
use Rattle.rules.specs.Asked.{due, AsListed}
use Rattle.rules.specs.Walk.{Said, question, finished, refused, told, open_at, Stop}
use Rattle.rules.proofs.Rest.{line_of}
use Rattle.rules.proofs.Open.{is_asked}
use Rattle.counting.specs.Paths.{Claims, Always}
use Rattle.flight.specs.declared.Phase.{Phase}
use Rattle.flight.specs.declared.Phase.TheVariants.{Asks, Over}
use Rattle.flight.specs.declared.Flight.{Flight}
use Rattle.flight.specs.Flight.{asks_in, ending_in, phase_of, flight_of, Flown}
use Rattle.flight.specs.Story.{Story, numbered, nothing_more, before, story}
use Rattle.flight.proofs.Settling.{ending_told, Asked, Ended}

-- ---- a flight's phase is what was told
abbrev pub Says : Said → Phase → Type 0
Says (question n p) h = (q : Question) × (h ≡ Asks q) × (q.number ≡ n) × (q.r ≡ p.r)
Says (finished t y e steps startups) h = h ≡ Over (Ok tt)
Says (refused n) h = (e : Refusal) × (h ≡ Over (Err e)) × (number_of e ≡ n)

says_so : (o : Outcome) → Says (told o) (phase_of o)
unfolding told phase_of
says_so (Ask q) = (q, refl, refl, refl)
says_so (Done s) = refl
says_so (Refused e) = (e, refl, refl)

asks_so : (s : Said) (h : Phase) → Says s h → asks_in h ≡ is_asked s
asks_so (question n p) h x = ap asks_in x.1
asks_so (finished t y e steps startups) h x = ap asks_in x
asks_so (refused n) h x = ap asks_in x.1

ends_so : (s : Said) (h : Phase) → Says s h → ending_in h ≡ ending_told s
ends_so (question n p) h x = ap ending_in x.1
ends_so (finished t y e steps startups) h x = ap ending_in x
ends_so (refused n) h x = ap ending_in x.1 ∙ x.2

module _ (p : Plan) (c : Claims) where
  -- its question is open, after m answers at least; each of these stored five samples at most
  pub record Open (m : ℕ) (f : Flight) (left : Story) : Type 0 where
    pub asked : Question
    pub phase : f.phase ≡ Asks asked
    pub number : ℕ
    pub evals : ℕ
    pub since : m ≤ evals
    pub place : Point
    pub next : Triple → Course
    pub line : line_of f.run ≡ open_at number evals place next
    pub number_is : asked.number ≡ number
    pub place_is : asked.r ≡ place.r
    pub ordered : (a : Triple) → Always c (evals + 1) f.next (next a)
    pub few : (a : Triple) → (due (next a) ≤ 5) × AsListed p (next a)
    pub near : f.next ≤ 5 * evals
    pub tale : left ≡ story (asks place next)

  pub record Landed (f : Flight) (left : Story) : Type 0 where
    pub asks_none : asks_in f.phase ≡ false
    pub tale : left ≡ nothing_more (ending_in f.phase)

  abbrev pub Tells : (m : ℕ) → Flight → Story → Type 0
  Tells m f left = Open m f left ⊎ Landed f left

  pub since_less : {m k : ℕ} {f : Flight} {left : Story} → m ≤ k → Tells k f left → Tells m f left
  since_less {m} {k} {f} {left} h (inl o) =
      inl (record {
        asked = o.asked;
        phase = o.phase;
        number = o.number;
        evals = o.evals;
        since = let y = o.since in omega arith;
        place = o.place;
        next = o.next;
        line = o.line;
        number_is = o.number_is;
        place_is = o.place_is;
        ordered = o.ordered;
        few = o.few;
        near = o.near;
        tale = o.tale;
      })
  since_less h (inr o) = inr o

  -- ---- after a call
  pub arrives : (i e n : ℕ) (x : Answered) (s : Stop) (left : Story) → told x.outcome ≡ s.said → line_of x.run ≡ s.line → n ≤ 5 * e
      → Asked p c i e n s left ⊎ Ended p c s left → Tells e (flight_of n x) left
  unfolding flight_of
  arrives i e n x s left u v w = go
    where
      h : Says s.said (phase_of x.outcome)
      h = subst (λ (y : Said). Says y (phase_of x.outcome)) u (says_so x.outcome)

      go : Asked p c i e n s left ⊎ Ended p c s left → Tells e (record { run = x.run; next = n; phase = phase_of x.outcome }) left
      go (inl a) =
          let q : Says (question i a.place) (phase_of x.outcome) = subst (λ (y : Said). Says y (phase_of x.outcome)) a.said h in
          inl (record {
            asked = q.0;
            phase = q.1;
            number = i;
            evals = e;
            since = omega arith;
            place = a.place;
            next = a.next;
            line = v ∙ a.line;
            number_is = q.2;
            place_is = q.3;
            ordered = a.ordered;
            few = a.few;
            near = w;
            tale = a.tale;
          })
      go (inr a) = inr (record { asks_none = asks_so _ _ h ∙ a.said; tale = a.tale ∙ ap nothing_more (sym (ends_so _ _ h)) })

  -- ---- samples put into a room that begins at `from`, and the story before and after
  pub record Goes (m from : ℕ) (f : Flight) (numbers : List Float) (st : Story) (g : Flown) : Type 0 where
    pub samples : List Sample
    pub count : f.next + length samples ≡ g.flight.next
    pub put : tens from g.out ≡ put_all f.next samples (tens from numbers)
    pub room : sample_width * (g.flight.next - from) ≤ length numbers
    pub left : Story
    pub tale : st ≡ before (numbered f.next samples) left
    pub tells : Tells m g.flight left
