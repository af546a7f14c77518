-- One answer to a flight's question: what it stores begins the story that was left.
use mathlib.Core.Path.{◌≡◌, refl, sym, ap, subst, ◌∙◌}
use mathlib.Core.Logic.{◌⊎◌, inr}
use Prim.Native.Nat.{ℕ, ◌+◌, ◌-◌, ◌*◌, ◌%◌, ◌≤◌}
use native.Mathlib.Nat.{add-zero}
use native.Mathlib.Omega.{arith}
use mathlib.Core.Bool.{Bool, true, false, cond}
use mathlib.Core.List.{List, []}
use lib.ListN.{length}
use lib.Ieee.{Float}
use borrow.Author.Tests.{eq-eqb}
use Rattle.triple.specs.declared.Triple.{Triple}
use Rattle.triple.specs.declared.Sample.{Sample}
use Rattle.triple.specs.Sampled.{sample_width}
use Rattle.plan.specs.declared.Plan.{Plan}
use Rattle.run.specs.Limits.{numbering}
use Rattle.run.specs.Samples.{tens, numbers_of, is_placed, has_room, put_all}
use Rattle.run.proofs.Placing.{placed_is, same_room, room_within}
use Rattle.gauss_jackson.specs.Answers.{Given, answered}
use Rattle.rules.specs.Rules.{asks}
use Rattle.rules.specs.Asked.{due}
use Rattle.rules.specs.Walk.{refused, Line, open_at, Stop, settle, called}
use Rattle.rules.proofs.Rest.{seen}
use Rattle.rules.proofs.Calls.{call_is}
use Rattle.counting.specs.Paths.{Claims}
use Rattle.counting.specs.Rooms.{Holds}
use Rattle.counting.proofs.Ahead.{reached, samples_ahead, count_ahead, from_there, stop_at, due_holds, settles}
use Rattle.point_mass.specs.Force.{distance, is_too_low, pull, pull_at, answer_at}
use Rattle.flight.specs.declared.Flight.{Flight}
use Rattle.flight.specs.Flight.{flight_of, flown_after, landed_low, answered_by, answered_once}
use Rattle.flight.specs.Story.{Story, numbered, nothing_more, story}
use Rattle.flight.proofs.Once.{once_low, once_high}
use Rattle.flight.proofs.Settling.{Asked, Ended, settled, tale_ahead}
use Rattle.flight.proofs.Tales.{Open, Goes, since_less, arrives}

module _ (p : Plan) (c : Claims) (m from : ℕ) (f : Flight) (numbers : List Float) (st : Story) (o : Open p c m f st)
    (place : is_placed from f.next 5 (length numbers) ≡ true) where
  abbrev a : Triple
  a = pull o.asked.r

  abbrev given : Given
  given = answered f.run o.asked.number a (tens from numbers)

  abbrev stop : Stop
  stop = settle (o.next a) ((o.number + 1) % numbering) (o.evals + 1) (tens from numbers)

  enough : sample_width * (f.next - from + 5) ≤ length numbers
  enough = (placed_is from f.next 5 (length numbers) place).1

  tale_by : (d : Bool) → is_too_low (distance o.asked.r) ≡ d → st ≡ cond d (nothing_more 15) (story (o.next a))
  unfolding story
  tale_by d h =
      o.tale
      ∙ subst (λ (r : Triple). story (asks o.place o.next) ≡ cond (is_too_low (distance r)) (nothing_more 15) (story (o.next (pull r)))) (sym o.place_is) refl
      ∙ ap (λ (b : Bool). cond b (nothing_more 15) (story (o.next a))) h

  called_is : seen given ≡ stop
  unfolding called
  called_is =
      call_is f.run (record { number = o.asked.number; a = a; out = tens from numbers })
      ∙ ap (λ (l : Line). called l (record { number = o.asked.number; a = a; out = tens from numbers })) o.line
      ∙ ap (λ (b : Bool). cond b stop (record { said = refused 8; stored = 0; out = tens from numbers; line = open_at o.number o.evals o.place o.next }))
      (eq-eqb o.number o.asked.number (sym o.number_is))

  abbrev ss : List Sample
  ss = samples_ahead (o.next a)

  abbrev left : Story
  left = story (from_there (reached (o.next a)))

  room : Holds (tens from numbers) (o.next a)
  unfolding has_room
  room =
      let h : due (o.next a) ≤ 5 = (o.few a).0 in
      due_holds c (o.evals + 1) f.next (o.next a) (tens from numbers) (o.ordered a)
      (room_within f.next 5 f.next (due (o.next a)) (tens from numbers) (omega arith) (omega arith) place)

  settled_is : seen given ≡ stop_at (reached (o.next a)) ((o.number + 1) % numbering) (o.evals + 1) (length ss) (put_all f.next ss (tens from numbers))
  settled_is = called_is ∙ settles c ((o.number + 1) % numbering) (o.evals + 1) f.next (o.next a) (tens from numbers) (o.ordered a) room

  stored_is : given.got.stored ≡ length ss
  unfolding seen
  stored_is = ap (λ (s : Stop). s.stored) settled_is

  next_is : (flight_of (f.next + given.got.stored) given.got).next ≡ f.next + length ss
  unfolding flight_of
  next_is = ap (λ (n : ℕ). f.next + n) stored_is

  low_goes : is_too_low (distance o.asked.r) ≡ true → Goes p c (m + 1) from f numbers st (answered_once from f numbers)
  unfolding landed_low put_all numbered pull_at answer_at
  low_goes h =
      let e = enough in
      subst (Goes p c (m + 1) from f numbers st) (sym (once_low from f numbers o.asked o.phase (rw h)))
      (record {
        samples = [];
        count = add-zero f.next;
        put = refl;
        room = omega arith;
        left = nothing_more 15;
        tale = tale_by true h;
        tells = inr (record { asks_none = refl; tale = refl });
      })

  high_goes : is_too_low (distance o.asked.r) ≡ false → Goes p c (m + 1) from f numbers st (answered_once from f numbers)
  unfolding answered_by flown_after flight_of seen pull_at answer_at
  high_goes h =
      let e = enough in
      let b = (placed_is from f.next 5 (length numbers) place).0 in
      let n = next_is in
      let d : due (o.next a) ≤ 5 = (o.few a).0 in
      let l = count_ahead (o.next a) in
      let w = stored_is in
      let z = o.near in
      let y = o.since in
      subst (Goes p c (m + 1) from f numbers st) (sym (once_high from f numbers o.asked o.phase a (rw h)))
      (record {
        samples = ss;
        count = sym next_is;
        put = ap (λ (s : Stop). tens from (numbers_of s.out)) settled_is ∙ same_room ss f.next from numbers;
        room = omega arith;
        left = left;
        tale = tale_by false h ∙ tale_ahead p c (o.next a) (o.evals + 1) f.next (o.ordered a);
        tells = since_less p c (omega arith)
            (arrives p c ((o.number + 1) % numbering) (o.evals + 1) (f.next + given.got.stored) given.got stop left
            (ap (λ (s : Stop). s.said) called_is) (ap (λ (s : Stop). s.line) called_is) (omega arith)
            (subst (λ (i : ℕ). Asked p c ((o.number + 1) % numbering) (o.evals + 1) (f.next + i) stop left ⊎ Ended p c stop left) (sym stored_is)
            (settled p c (o.next a) ((o.number + 1) % numbering) (o.evals + 1) f.next (tens from numbers) (o.ordered a) (o.few a).1 room)));
      })

  pub once_goes : Goes p c (m + 1) from f numbers st (answered_once from f numbers)
  once_goes = go (is_too_low (distance o.asked.r)) refl
    where
      go : (d : Bool) → is_too_low (distance o.asked.r) ≡ d → Goes p c (m + 1) from f numbers st (answered_once from f numbers)
      go true h = low_goes h
      go false h = high_goes h
