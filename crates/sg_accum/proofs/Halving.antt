-- Parts that are begun and ended in halves.
use Rattle.std.proofs.Common.{◌≡◌, ℕ, zero, suc, ◌+◌, ◌-◌, ◌/◌, ◌%◌, ◌<◌, ◌≤◌, List, [], ◌∷◌, ◌++◌, length, take, drop, get_or, get_or-take, get_or-drop, length-take-le, length-drop, length-append, append-nil, fold, refl, sym, ap, ◌∙◌, subst, subst₂, arith, Result, Ok, Err, Vec, Global}
use Rattle.std.specs.Prelude.{slice_index_or, IfOk}
use Rattle.std.specs.List.{All, concat}
use Rattle.std.proofs.lemmas.List.{map-append, take-map, drop-map, length-map, get_or_append_left, get_or-append_right}
use Rattle.std.proofs.lemmas.List.Elements.{All-nil, All-cons, All-append, All-take, All-drop}
use native.Mathlib.Decide.{dec_le}
use mathlib.Core.Logic.{dite}
use Rattle.sg_words.specs.declared.operators.Ty.{Ty}
use Rattle.sg_words.specs.declared.operators.AccOp.{AccOp}
use Rattle.sg_words.specs.declared.race.Worker.{Worker}
use Rattle.sg_words.specs.Words.{folded}
use Rattle.sg_words.specs.RaceMachine.{nobody}
use Rattle.sg_words.specs.RaceInvariant.{handed_share}
use Rattle.sg_accum.specs.declared.part.Part.{Part}
use Rattle.sg_accum.specs.declared.part.PartSeat.{PartSeat}
use Rattle.sg_accum.specs.declared.halves.Begun.{Begun}
use Rattle.sg_accum.specs.AccRace.{first_worker}
use Rattle.sg_accum.specs.Parts.{part_values, part_tables, seat_tables, seat_workers, worker_at, AreCut, AreBy, many_at}
use Rattle.sg_accum.specs.declared.seat.AccPass.{AccPass}
use Rattle.sg_accum.specs.declared.seat.AccSeat.{AccSeat}
use Rattle.sg_accum.specs.Folding.{given_to, given_in_parts, AreFolded, IsStart, IsEnd}
use Rattle.sg_accum.specs.steps.Teams.{AreBegun, CanEnd, AreEnded}
use Rattle.sg_accum.proofs.Pieces.{some_list, found, same_lengths, same_cut, concat-append, cut-append, cut-one}

pub many-parts : (parts : List Part) → length (part_values parts) ≡ length parts
many-parts parts = length-map parts (λ (p : Part). p.start.values)

-- ---- begun
pub begun-one : (op : AccOp) (t : Ty) (values : List ℕ) (part : Part) (seat : PartSeat) → part.start.values ≡ values → part.start.op ≡ op → part.start.ty ≡ t
    → seat.seat.table_id ≡ part.table.shared.table_id → seat.seat.me.0 ≡ first_worker → length values ≤ 65536 → AreBegun op t values (part ∷ []) (seat ∷ [])
begun-one op t values part seat old is ty-is own first few = record {
  whole = append-nil part.start.values ∙ old;
  cut = cut-one part.start.values part.some_cell (subst (λ (l : List ℕ). length l ≤ 65536) (sym old) few);
  by = All-cons (λ (p : Part). (p.start.op ≡ op) × (p.start.ty ≡ t)) part [] (is, ty-is) (All-nil (λ (p : Part). (p.start.op ≡ op) × (p.start.ty ≡ t)));
  own = ap (λ id. id ∷ []) own;
  first = All-cons (λ (v : Worker). v ≡ first_worker) seat.seat.me.0 [] first (All-nil (λ (v : Worker). v ≡ first_worker));
}

pub begun-both : (op : AccOp) (t : Ty) (xs ys : List ℕ) (ps qs : List Part) (ss ts : List PartSeat) → length xs % 65536 ≡ 0 → AreBegun op t xs ps ss → AreBegun op t ys qs ts
    → AreBegun op t (xs ++ ys) (ps ++ qs) (ss ++ ts)
begun-both op t xs ys ps qs ss ts even a b =
    let values : Part → List ℕ = λ p. p.start.values in
    let me : PartSeat → Worker = λ s. s.seat.me.0 in
    let both = map-append values ps qs in
    record {
      whole = ap concat both ∙ concat-append (part_values ps) (part_values qs) ∙ ap (λ l. l ++ concat (part_values qs)) a.whole ∙ ap (λ l. xs ++ l) b.whole;
      cut = subst AreCut (sym both) (cut-append (part_values ps) (part_values qs) a.cut b.cut (ap (λ (l : List ℕ). length l % 65536) a.whole ∙ even));
      by = All-append (λ (p : Part). (p.start.op ≡ op) × (p.start.ty ≡ t)) ps qs a.by b.by;
      own = map-append (λ (s : PartSeat). s.seat.table_id) ss ts ∙ ap (λ l. l ++ seat_tables ts) a.own ∙ ap (λ l. part_tables ps ++ l) b.own
          ∙ sym (map-append (λ (p : Part). p.table.shared.table_id) ps qs);
      first = subst (All (λ (v : Worker). v ≡ first_worker)) (sym (map-append me ss ts)) (All-append (λ (v : Worker). v ≡ first_worker) (seat_workers ss) (seat_workers ts) a.first b.first);
    }

pub if_ok_begun : {E : Type 0} (op : AccOp) (t : Ty) (values xs ys : List ℕ) (front back : Begun) (r : Result Begun E) → values ≡ xs ++ ys → length xs % 65536 ≡ 0
    → AreBegun op t xs front.parts.items front.seats.items → AreBegun op t ys back.parts.items back.seats.items
    → IfOk r (λ (both : Begun). both.parts.items ≡ front.parts.items ++ back.parts.items) → IfOk r (λ (both : Begun). both.seats.items ≡ front.seats.items ++ back.seats.items)
    → IfOk r (λ (made : Begun). AreBegun op t values made.parts.items made.seats.items)
if_ok_begun op t values xs ys front back (Ok both) is even a b parts seats =
    subst₂ (AreBegun op t values) (sym parts) (sym seats)
    (subst (λ l. AreBegun op t l (front.parts.items ++ back.parts.items) (front.seats.items ++ back.seats.items)) (sym is)
    (begun-both op t xs ys front.parts.items back.parts.items front.seats.items back.seats.items even a b))
if_ok_begun op t values xs ys front back (Err e) is even a b parts seats = tt

-- ---- ended
pub can-front : (op : AccOp) (t : Ty) (m : ℕ) (parts : List Part) (seats : List PartSeat) → 0 < m → m < length parts → CanEnd op t parts seats → CanEnd op t (take m parts) (take m seats)
can-front op t m parts seats first more can = record {
  some = omega (arith, length-take-le m parts (omega arith), first);
  by = All-take (λ (p : Part). (p.start.op ≡ op) × (p.start.ty ≡ t)) m parts can.by;
  own = sym (take-map (λ (s : PartSeat). s.seat.table_id) m seats) ∙ ap (take m) can.own ∙ take-map (λ (p : Part). p.table.shared.table_id) m parts;
  all = subst (All (λ (v : Worker). handed_share v ≡ 16)) (take-map (λ (s : PartSeat). s.seat.me.0) m seats) (All-take (λ (v : Worker). handed_share v ≡ 16) m (seat_workers seats) can.all);
}

pub can-back : (op : AccOp) (t : Ty) (m : ℕ) (parts : List Part) (seats : List PartSeat) → m < length parts → CanEnd op t parts seats → CanEnd op t (drop m parts) (drop m seats)
can-back op t m parts seats more can = record {
  some = omega (arith, length-drop m parts, more);
  by = All-drop (λ (p : Part). (p.start.op ≡ op) × (p.start.ty ≡ t)) m parts can.by;
  own = sym (drop-map (λ (s : PartSeat). s.seat.table_id) m seats) ∙ ap (drop m) can.own ∙ drop-map (λ (p : Part). p.table.shared.table_id) m parts;
  all = subst (All (λ (v : Worker). handed_share v ≡ 16)) (drop-map (λ (s : PartSeat). s.seat.me.0) m seats) (All-drop (λ (v : Worker). handed_share v ≡ 16) m (seat_workers seats) can.all);
}

moved : (op : AccOp) (t : Ty) (o o' : List ℕ) (w w' : Worker) (n n' : List ℕ) → o ≡ o' → w ≡ w' → n ≡ n' → AreFolded op t o (λ c. given_to c w.given) n → AreFolded op t o' (λ c. given_to c w'.given) n'
moved op t o o' w w' n n' old worker new h =
    subst (λ l. AreFolded op t o' (λ c. given_to c w'.given) l) new
    (subst (λ (v : Worker). AreFolded op t o' (λ c. given_to c v.given) n) worker (subst (λ l. AreFolded op t l (λ c. given_to c w.given) n) old h))

lists-both : (op : AccOp) (t : Ty) (m : ℕ) (old : List (List ℕ)) (ws : List Worker) (a b : List (List ℕ)) → m ≤ length old → AreEnded op t (take m old) (take m ws) a → AreEnded op t (drop m old) (drop m ws) b
    → AreEnded op t old ws (a ++ b)
lists-both op t m old ws a b within front back =
    let first : length (take m old) ≡ m = length-take-le m old within in
    let rest : length (drop m old) ≡ length old - m = length-drop m old in
    let many : length a ≡ m = front.many ∙ first in
    record {
      many = omega (arith, length-append a b, many, back.many, rest, within);
      each = λ k below.
          dite (dec_le m k)
          (λ past.
          (let j = k - m in
          let at : m + j ≡ k = omega arith in
          let inside : j < length (drop m old) = omega (arith, rest, below, past) in
          moved op t (slice_index_or (drop m old) j []) (slice_index_or old k []) (worker_at (drop m ws) j) (worker_at ws k) (slice_index_or b j []) (slice_index_or (a ++ b) k [])
          (get_or-drop m old j [] ∙ ap (λ n. get_or old n []) at) (get_or-drop m ws j nobody ∙ ap (worker_at ws) at) (sym (get_or-append_right a b m k [] many past)) (back.each j inside)))
          (λ under.
          (let here : k < m = omega arith in
          let inside : k < length (take m old) = omega (arith, first, here) in
          let there : k < length a = omega (arith, many, here) in
          moved op t (slice_index_or (take m old) k []) (slice_index_or old k []) (worker_at (take m ws) k) (worker_at ws k) (slice_index_or a k []) (slice_index_or (a ++ b) k [])
          (get_or-take m old k [] here) (get_or-take m ws k nobody here) (sym (get_or_append_left a b [] k there)) (front.each k inside)));
    }

pub ended-both : (op : AccOp) (t : Ty) (m : ℕ) (parts : List Part) (seats : List PartSeat) (a b : List (List ℕ)) → m ≤ length parts
    → AreEnded op t (part_values (take m parts)) (seat_workers (take m seats)) a → AreEnded op t (part_values (drop m parts)) (seat_workers (drop m seats)) b
    → AreEnded op t (part_values parts) (seat_workers seats) (a ++ b)
ended-both op t m parts seats a b within front back =
    let values : Part → List ℕ = λ p. p.start.values in
    let me : PartSeat → Worker = λ s. s.seat.me.0 in
    lists-both op t m (part_values parts) (seat_workers seats) a b (subst (λ n. m ≤ n) (sym (length-map parts values)) within)
    (subst₂ (λ o ws. AreEnded op t o ws a) (sym (take-map values m parts)) (sym (take-map me m seats)) front)
    (subst₂ (λ o ws. AreEnded op t o ws b) (sym (drop-map values m parts)) (sym (drop-map me m seats)) back)

pub if_ok_ended : {E : Type 0} (op : AccOp) (t : Ty) (old : List (List ℕ)) (ws : List Worker) (a b : List (List ℕ)) (r : Result (Vec (List ℕ) Global) E) → AreEnded op t old ws (a ++ b)
    → IfOk r (λ (both : Vec (List ℕ) Global). both.items ≡ a ++ b) → IfOk r (λ (done : Vec (List ℕ) Global). AreEnded op t old ws done.items)
if_ok_ended op t old ws a b (Ok both) ended is = subst (AreEnded op t old ws) (sym is) ended
if_ok_ended op t old ws a b (Err e) ended is = tt

ended-one : (op : AccOp) (t : Ty) (values : List ℕ) (v : Worker) (new : List ℕ) → AreFolded op t values (λ c. given_to c v.given) new → AreEnded op t (values ∷ []) (v ∷ []) (new ∷ [])
ended-one op t values v new folded = record { many = refl; each = first op t values v new folded }
  where
    first : (op : AccOp) (t : Ty) (values : List ℕ) (v : Worker) (new : List ℕ) → AreFolded op t values (λ c. given_to c v.given) new → (k : ℕ) → k < 1
        → AreFolded op t (slice_index_or (values ∷ []) k []) (λ c. given_to c (worker_at (v ∷ []) k).given) (slice_index_or (new ∷ []) k [])
    first op t values v new folded zero below = folded
    first op t values v new folded (suc k) below = absurd (omega arith)

only-one : {X : Type 0} (xs ys : List X) (x : X) → xs ≡ ys ++ x ∷ [] → length xs < 2 → xs ≡ x ∷ []
only-one xs [] x is few = is
only-one xs (y ∷ ys) x is few =
    let long : length xs ≡ suc (length (ys ++ x ∷ [])) = ap length is in
    let more = length-append ys (x ∷ []) in
    absurd (omega (arith, long, more, few))

-- the end of one part
pub ended-only : (op : AccOp) (t : Ty) (parts before : List Part) (seats left : List PartSeat) (part : Part) (seat : PartSeat) (done : List (List ℕ)) (new : List ℕ) → parts ≡ before ++ part ∷ []
    → length parts < 2 → seats ≡ left ++ seat ∷ [] → length seats < 2 → AreBy op t parts → done ≡ new ∷ [] → AreFolded part.start.op part.start.ty part.start.values (λ c. given_to c seat.seat.me.0.given) new
    → AreEnded op t (part_values parts) (seat_workers seats) done
ended-only op t parts before seats left part seat done new is few is' few' by made folded =
    let part-is = only-one parts before part is few in
    let seat-is = only-one seats left seat is' few' in
    let it = subst (AreBy op t) part-is by 0 part (omega arith) in
    let mine : AreFolded op t part.start.values (λ c. given_to c seat.seat.me.0.given) new =
    subst₂ (λ o ty. AreFolded o ty part.start.values (λ c. given_to c seat.seat.me.0.given) new) it.0 it.1 folded in
    subst (λ l. AreEnded op t (part_values parts) (seat_workers seats) l) (sym made)
    (subst₂ (λ (ps : List Part) (ss : List PartSeat). AreEnded op t (part_values ps) (seat_workers ss) (new ∷ [])) (sym part-is) (sym seat-is)
    (ended-one op t part.start.values seat.seat.me.0 new mine))

-- all ends of parts, one after the other, are the end of the whole
pub whole-ended : (op : AccOp) (t : Ty) (old new : List (List ℕ)) (ws : List Worker) → AreCut old → AreEnded op t old ws new → AreFolded op t (concat old) (given_in_parts ws) (concat new)
whole-ended op t old new ws cut ended =
    let long : (k : ℕ) → k < length old → many_at new k ≡ many_at old k = λ k below. (ended.each k below).long in
    let same = same_lengths old new ended.many long in
    record {
      long = same;
      folds = λ c below.
          (let before = found old c cut below in
          let after = found new c (same_cut old new ended.many long cut) (subst (λ n. c < n) (sym same) below) in
          after.value ∙ (ended.each (c / 65536) before.within).folds (c % 65536) before.inside
          ∙ ap (λ a. fold (folded op t) a (given_in_parts ws c)) (sym before.value));
    }

pub if_ok_whole : {E : Type 0} (p : AccPass) (s : AccSeat) (r : Result (Vec (List ℕ) Global) E) → IfOk r (λ (done : Vec (List ℕ) Global). AreEnded p.op p.ty (part_values p.parts.items) (seat_workers s.seats.items) done.items)
    → IfOk r (λ (done : Vec (List ℕ) Global). IsEnd p s (concat done.items))
if_ok_whole p s (Ok done) ended = whole-ended p.op p.ty (part_values p.parts.items) done.items (seat_workers s.seats.items) p.cut ended
if_ok_whole p s (Err e) ended = tt

-- what was begun, of its own values
pub begun-itself : (op : AccOp) (t : Ty) (values : List ℕ) (parts : List Part) (seats : List PartSeat) → AreBegun op t values parts seats → AreBegun op t (concat (part_values parts)) parts seats
begun-itself op t values parts seats made = subst (λ l. AreBegun op t l parts seats) (sym made.whole) made

pub begun-some : (op : AccOp) (t : Ty) (values : List ℕ) (parts : List Part) (seats : List PartSeat) → 0 < length values → AreBegun op t values parts seats → 0 < length parts
begun-some op t values parts seats some made =
    let lists : 0 < length (part_values parts) = some_list (part_values parts) (subst (λ l. 0 < length l) (sym made.whole) some) in
    omega (arith, many-parts parts, lists)

pub if_ok_start : {E : Type 0} (op : AccOp) (t : Ty) (values : List ℕ) (parts : List Part) (seats : List PartSeat) (r : Result (AccPass × AccSeat) E) → AreBegun op t values parts seats
    → IfOk r (IsStart op t (concat (part_values parts))) → IfOk r (IsStart op t values)
if_ok_start op t values parts seats r made start = subst (λ l. IfOk r (IsStart op t l)) made.whole start
