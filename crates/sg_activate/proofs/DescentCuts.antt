-- A seat cut in two, and two seats made one: spares and flags.
use Rattle.std.proofs.Common.{◌≡◌, ℕ, zero, suc, ◌+◌, ◌<◌, ◌≤◌, ◌⊎◌, inl, inr, Bool, false, ◌||◌, ◌&&◌, ◌==◌, nat_lt, List, [], ◌∷◌, ◌++◌, length, replicate, refl, sym, ap, ◌∙◌, subst, arith}
use Rattle.std.specs.Prelude.{slice_index_or}
use Rattle.std.proofs.lemmas.Bool.Decides.{nat_tests}
use Rattle.std.proofs.lemmas.List.{get_or_past}
use Rattle.atomic_table.specs.Table.{Splits, Joins}
use Rattle.sg_words.specs.declared.race.Worker.{Worker}
use Rattle.sg_words.specs.Counts.{one, pairs, firsts, times_in}
use Rattle.sg_words.specs.RaceMachine.{nobody, after_split, other_half, after_join}
use Rattle.sg_words.proofs.Uses.{total-append}
use mathlib.Core.Logic.{dite}
use native.Mathlib.Decide.{ℕ_discrete}
use Rattle.sg_coord.specs.declared.coord.Coord.{Coord}
use Rattle.sg_coord.specs.Coord.{Inside}
use Rattle.sg_layout.specs.Axes.{bounds_of_shape}
use Rattle.sg_activate.specs.declared.descent.seat.DescentPass.{DescentPass}
use Rattle.sg_activate.specs.Descending.{IsSlotFor, IsBitFor}
use Rattle.sg_activate.specs.Descents.{AreInside}
use Rattle.sg_activate.specs.steps.DescentSeats.{AreSpares, AreDry}
use Rattle.sg_activate.proofs.DescentAnswered.{slot_for_more, bit_for_more}
use Rattle.sg_activate.proofs.DescentViews.{zeros}
use Rattle.sg_activate.proofs.DescentMoves.{Holds, splits-allowed, joins-allowed}

pub split-allowed : (p : DescentPass) (id : ℕ) (v : Worker) → 2 ≤ v.share → Splits (Holds p.table.shared.key) id v (after_split v) (other_half v)
split-allowed p id v share = subst (λ k. Splits (Holds k) id v (after_split v) (other_half v)) (sym p.told) (splits-allowed p.start p.laid id v share)

pub join-allowed : (p : DescentPass) (id : ℕ) (v : Worker) (other : ℕ) (w : Worker) → 0 < v.share → 0 < w.share → Joins (Holds p.table.shared.key) id v other w (after_join v w) nobody
join-allowed p id v other w live live' = subst (λ k. Joins (Holds k) id v other w (after_join v w) nobody) (sym p.told) (joins-allowed p.start p.laid id v other w live live')

-- a new seat has no spare and isn't dry
pub new-spares : (v w : Worker) → w ≡ other_half v → AreSpares (replicate 6 0) w
new-spares v w e = subst (AreSpares (replicate 6 0)) (sym e) (record { stand = λ l some. absurd (let z = zeros 6 l in omega arith); listed = λ l t has. absurd (omega arith) })

none-dry : (n l : ℕ) → slice_index_or (replicate n false) l false ≡ false
none-dry zero l = refl
none-dry (suc n) zero = refl
none-dry (suc n) (suc l) = none-dry n l

pub new-dry : (v w : Worker) → w ≡ other_half v → AreDry (replicate 6 false) w
new-dry v w e = subst (AreDry (replicate 6 false)) (sym e) (λ l. none-dry 6 l)

-- six flags, each of which either row has
pub six_either : (f h : ℕ → Bool) (a b c d e g : Bool) → a ≡ (f 0 || h 0) → b ≡ (f 1 || h 1) → c ≡ (f 2 || h 2) → d ≡ (f 3 || h 3) → e ≡ (f 4 || h 4) → g ≡ (f 5 || h 5)
    → ((l : ℕ) → 6 ≤ l → f l ≡ false) → ((l : ℕ) → 6 ≤ l → h l ≡ false) → (l : ℕ) → slice_index_or (a ∷ b ∷ c ∷ d ∷ e ∷ g ∷ []) l false ≡ (f l || h l)
six_either f h a b c d e g ea eb ec ed ee eg past past' zero = ea
six_either f h a b c d e g ea eb ec ed ee eg past past' (suc zero) = eb
six_either f h a b c d e g ea eb ec ed ee eg past past' (suc (suc zero)) = ec
six_either f h a b c d e g ea eb ec ed ee eg past past' (suc (suc (suc zero))) = ed
six_either f h a b c d e g ea eb ec ed ee eg past past' (suc (suc (suc (suc zero)))) = ee
six_either f h a b c d e g ea eb ec ed ee eg past past' (suc (suc (suc (suc (suc zero))))) = eg
six_either f h a b c d e g ea eb ec ed ee eg past past' (suc (suc (suc (suc (suc (suc l)))))) =
    let n = suc (suc (suc (suc (suc (suc l))))) in
    sym (ap (λ x. x || h n) (past n (omega arith)) ∙ past' n (omega arith))

pub past-six : (row : List Bool) → length row ≡ 6 → (l : ℕ) → 6 ≤ l → slice_index_or row l false ≡ false
past-six row long l past = get_or_past row l false (omega arith)

-- the flags of two seats made one
pub dry-join : (mine theirs both : List Bool) (v w u : Worker) → u ≡ after_join v w → AreDry mine v → AreDry theirs w → ((l : ℕ) → slice_index_or both l false ≡ (slice_index_or mine l false || slice_index_or theirs l false))
    → AreDry both u
dry-join mine theirs both v w u e a b are = subst (AreDry both) (sym e) (λ l.
    (let s = total-append (λ (x : ℕ × ℕ). one (x.0 == l)) v.past w.past in
    are l ∙ ap (λ x. x || slice_index_or theirs l false) (a l) ∙ ap (λ x. nat_lt 0 (firsts l v.past) || x) (b l) ∙ sum (firsts l v.past) (firsts l w.past) (firsts l (v.past ++ w.past)) s))
  where
    sum : (x y z : ℕ) → z ≡ x + y → (nat_lt 0 x || nat_lt 0 y) ≡ nat_lt 0 z
    sum zero y z e = ap (nat_lt 0) (let h : y ≡ z = omega arith in h)
    sum (suc x) y z e = let h : 0 < z = omega arith in grind (arith, nat_tests)

-- ---- what was made and marked is of coordinates inside
pub inside_split : (p : DescentPass) (v w : Worker) → w ≡ after_split v → AreInside p.start v → AreInside p.start w
inside_split p v w e are = subst (AreInside p.start) (sym e) (record {
  made = λ i t has. (let old = are.made i t has in (old.0, old.1, slot_for_more p v (after_split v) old.0 i (λ i n h. h) old.2));
  marked = λ b has. (let old = are.marked b has in (old.0, old.1, bit_for_more p v (after_split v) old.0 b (λ i n h. h) old.2));
})

pub inside_half : (p : DescentPass) (v w : Worker) → w ≡ other_half v → AreInside p.start w
inside_half p v w e = subst (AreInside p.start) (sym e) (record { made = λ i t has. absurd (omega arith); marked = λ b has. absurd (omega arith) })

pub inside_join : (p : DescentPass) (v w u : Worker) → u ≡ after_join v w → AreInside p.start v → AreInside p.start w → AreInside p.start u
inside_join p v w u e mine theirs = subst (AreInside p.start) (sym e) (record {
  made = λ i t has. made i t (pairs-either i t v.made w.made has);
  marked = λ b has. marked b (times-either b v.marked w.marked has);
})
  where
    pairs-either : (i t : ℕ) (xs ys : List (ℕ × ℕ)) → 0 < pairs i t (xs ++ ys) → (0 < pairs i t xs) ⊎ (0 < pairs i t ys)
    pairs-either i t xs ys has =
        let a = total-append (λ (x : ℕ × ℕ). one ((x.0 == i) && (x.1 == t))) xs ys in
        dite (ℕ_discrete (pairs i t xs) 0) (λ none. inr (omega arith)) (λ some'. inl (omega arith))

    times-either : (b : ℕ) (xs ys : List ℕ) → 0 < times_in b (xs ++ ys) → (0 < times_in b xs) ⊎ (0 < times_in b ys)
    times-either b xs ys has =
        let a = total-append (λ (x : ℕ). one (x == b)) xs ys in
        dite (ℕ_discrete (times_in b xs) 0) (λ none. inr (omega arith)) (λ some'. inl (omega arith))

    front : (i n : ℕ) → 0 < pairs i n v.seen → 0 < pairs i n (v.seen ++ w.seen)
    front i n has = let a = total-append (λ (x : ℕ × ℕ). one ((x.0 == i) && (x.1 == n))) v.seen w.seen in omega arith

    back : (i n : ℕ) → 0 < pairs i n w.seen → 0 < pairs i n (v.seen ++ w.seen)
    back i n has = let a = total-append (λ (x : ℕ × ℕ). one ((x.0 == i) && (x.1 == n))) v.seen w.seen in omega arith

    made : (i t : ℕ) → (0 < pairs i t v.made) ⊎ (0 < pairs i t w.made) → (at : Coord) × Inside (bounds_of_shape p.start.layout) at × IsSlotFor p.start (after_join v w) at i
    made i t (inl has) = let old = mine.made i t has in (old.0, old.1, slot_for_more p v (after_join v w) old.0 i front old.2)
    made i t (inr has) = let old = theirs.made i t has in (old.0, old.1, slot_for_more p w (after_join v w) old.0 i back old.2)

    marked : (b : ℕ) → (0 < times_in b v.marked) ⊎ (0 < times_in b w.marked) → (at : Coord) × Inside (bounds_of_shape p.start.layout) at × IsBitFor p.start (after_join v w) at b
    marked b (inl has) = let old = mine.marked b has in (old.0, old.1, bit_for_more p v (after_join v w) old.0 b front old.2)
    marked b (inr has) = let old = theirs.marked b has in (old.0, old.1, bit_for_more p w (after_join v w) old.0 b back old.2)
