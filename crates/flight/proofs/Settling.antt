-- A call, by what is ahead in the tree: what is stored on the way begins the story, and what is told says how it goes on.
use mathlib.Core.Path.{◌≡◌, refl, sym, ap, subst, ◌∙◌}
use mathlib.Core.Logic.{◌⊎◌, inl, inr}
use Prim.Native.Nat.{ℕ, ◌+◌, ◌≤◌}
use mathlib.Core.Bool.{false}
use lib.ListN.{length}
use Rattle.triple.specs.declared.Triple.{Triple}
use Rattle.triple.specs.declared.Point.{Point}
use Rattle.plan.specs.declared.Plan.{Plan}
use Rattle.run.specs.Samples.{Room, put_all}
use Rattle.rules.specs.Rules.{Course, asks, stores, ends, exceeds}
use Rattle.rules.specs.Asked.{due, AsListed}
use Rattle.rules.specs.Walk.{Said, question, finished, refused, open_at, Stop, settle}
use Rattle.rules.proofs.Open.{is_asked}
use Rattle.counting.specs.Paths.{Claims, Always}
use Rattle.counting.specs.Rooms.{Holds}
use Rattle.counting.proofs.Ahead.{Reached, a_question, the_end, the_limit, reached, samples_ahead, from_there, stop_at, always_ahead, settles, listed_ahead}
use Rattle.flight.specs.Story.{Story, numbered, nothing_more, before, story}
use Rattle.flight.proofs.Rows.{told_more}

-- ---- how what is told ends
abbrev pub ending_told : Said → ℕ
ending_told (question n q) = 0
ending_told (finished t y e steps startups) = 0
ending_told (refused n) = n

module _ (p : Plan) (c : Claims) where
  -- question i is open after e answers and n samples, and this is the story from there
  pub record Asked (i e n : ℕ) (s : Stop) (left : Story) : Type 0 where
    pub place : Point
    pub next : Triple → Course
    pub said : s.said ≡ question i place
    pub line : s.line ≡ open_at i e place next
    pub ordered : (a : Triple) → Always c (e + 1) n (next a)
    pub few : (a : Triple) → (due (next a) ≤ 5) × AsListed p (next a)
    pub tale : left ≡ story (asks place next)

  pub record Ended (s : Stop) (left : Story) : Type 0 where
    pub said : is_asked s.said ≡ false
    pub tale : left ≡ nothing_more (ending_told s.said)

  -- a call goes on to what is ahead
  pub settled : (t : Course) (i e n : ℕ) (out : Room) → Always c e n t → AsListed p t → Holds out t
      → Asked i e (n + length (samples_ahead t)) (settle t i e out) (story (from_there (reached t))) ⊎ Ended (settle t i e out) (story (from_there (reached t)))
  unfolding Always AsListed story
  settled t i e n out h l r =
      subst (λ (s : Stop). Asked i e (n + length (samples_ahead t)) s (story (from_there (reached t))) ⊎ Ended s (story (from_there (reached t)))) (sym (settles c i e n t out h r))
      (go (reached t) (always_ahead c e n t h).1 (listed_ahead p t l))
    where
      m : ℕ
      m = length (samples_ahead t)

      go : (x : Reached) → Always c e (n + m) (from_there x) → AsListed p (from_there x)
          → Asked i e (n + m) (stop_at x i e m (put_all n (samples_ahead t) out)) (story (from_there x)) ⊎ Ended (stop_at x i e m (put_all n (samples_ahead t) out)) (story (from_there x))
      go (a_question q k) h l = inl (record { place = q; next = k; said = refl; line = refl; ordered = h; few = l.1; tale = refl })
      go (the_end u y steps startups) h l = inr (record { said = refl; tale = refl })
      go the_limit h l = inr (record { said = refl; tale = refl })

  -- and what it stores on the way begins the story
  pub tale_ahead : (t : Course) (e n : ℕ) → Always c e n t → story t ≡ before (numbered n (samples_ahead t)) (story (from_there (reached t)))
  unfolding Always story numbered samples_ahead reached
  tale_ahead (asks q k) e n h = refl
  tale_ahead (stores j ss t) e n h =
      ap (λ (i : ℕ). before (numbered i ss) (story t)) h.0
      ∙ ap (before (numbered n ss)) (tale_ahead t e (n + length ss) h.2)
      ∙ told_more ss (samples_ahead t) n (n + length ss) (story (from_there (reached t))) refl
  tale_ahead (ends u y steps startups) e n h = refl
  tale_ahead exceeds e n h = refl
