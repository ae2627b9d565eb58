-- Each move of a seat keeps the rule: it is one event of the race machine.
use Rattle.std.proofs.Common.{◌≡◌, ℕ, zero, suc, ◌+◌, ◌%◌, ◌^◌, ◌<◌, ◌≤◌, min, max, true, false, cond, ◌==◌, List, [], ◌∷◌, map, length, set, fold, refl, sym, ap, ◌∙◌, subst, arith}
use Rattle.std.specs.Prelude.{slice_index, bit_and, bit_or, bit_xor}
use Rattle.std.specs.List.{filter}
use Rattle.std.proofs.lemmas.List.{map-set, length-map, get_or-map}
use mathlib.Core.Option.{some, none, some-injective, some-ne-none}
use lib.ListN.{get_elem?}
use Rattle.atomic_table.specs.Table.{State, Me, step, keeps, Allows, Splits, Joins}
use Rattle.sg_words.specs.declared.operators.Ty.{Ty}
use Rattle.sg_words.specs.declared.operators.Ty.TheVariants as ty
use Rattle.sg_words.specs.declared.operators.AccOp.TheVariants as acc
use Rattle.sg_words.specs.declared.race.Worker.{Worker}
use Rattle.sg_words.specs.Words.{rank_of, unrank_of, folded}
use Rattle.sg_words.specs.Counts.{total}
use Rattle.sg_words.specs.RaceMachine.{nobody, after_split, other_half, after_join, after_add}
use Rattle.sg_words.specs.RaceInvariant.{handed_share, fold_in, fold_all, MeetsRaceInvariant}
use Rattle.sg_words.proofs.Uses.{folded_exchanged, kept-add, kept-enrol, kept-join, stands, set_other_at, alone}
use Rattle.sg_accum.specs.declared.begin.Start.{Start}
use Rattle.sg_accum.specs.declared.part.Part.{Part}
use Rattle.sg_accum.specs.declared.part.PartSeat.{PartSeat}
use Rattle.sg_accum.specs.AccRace.{cell_of, IsEntry, setting_of, race_of, Racing, gives}
use Rattle.sg_accum.specs.Folding.{given_to, AreFolded}
use Rattle.sg_accum.proofs.Words.{Follows, follows-add, follows-min, follows-max, follows-or, follows-and, follows-xor, all-set}

abbrev pub Holds : Start → State (Unit {0}) Worker → Type 0
Holds start s = Racing start s.words s.views

-- ---- a contribution
step-kept : (start : Start) (words : List ℕ) (views : List Worker) (id : ℕ) (v : Worker) (i m x : ℕ) → get_elem? views id ≡ some v → 0 < v.share → i < length start.values
    → Follows start.op start.ty (slice_index words i) x m → Racing start words views → Racing start (set words i m) (set views id (after_add i x v))
step-kept start words views id v i m x at live inside follows r =
    let g = setting_of start in
    let f = cell_of start.op start.ty in
    let long : length (map f words) ≡ length start.values = r.kept.cells.0 in
    let within : i < length (map f words) = subst (λ n. i < n) (sym long) inside in
    let below : i < length words = subst (λ n. i < n) (length-map words f) within in
    let here : slice_index (map f words) i ≡ f (slice_index words i) = get_or-map f words i 0 0 below in
    let becomes : folded start.op start.ty (slice_index (map f words) i) x ≡ f m = ap (λ n. folded start.op start.ty n x) here ∙ sym follows.0 in
    let cells : set (map f words) i (folded start.op start.ty (slice_index (map f words) i) x) ≡ map f (set words i m) = ap (λ n. set (map f words) i n) becomes ∙ sym (map-set f words i m) in
    record {
      kept = subst (λ l. MeetsRaceInvariant g (record (race_of start words views) { cells = l; workers = set views id (after_add i x v) })) cells
          (kept-add g (race_of start words views) id v i x at (stands views id v r.kept.team at live) within (folded_exchanged start.op start.ty) r.kept);
      low = all-set (IsEntry start.op) words i m follows.1 r.low;
    }

step-allowed : (start key : Start) (t : Ty) (slots id : ℕ) (me : Me (Unit {0}) Worker) (i p x : ℕ) (f : ℕ → ℕ) → key ≡ start → 0 < me.0.share → i < length start.values → unrank_of t p ≡ x
    → ((n : ℕ) → IsEntry start.op n → Follows start.op start.ty n x (f n)) → Allows (Holds key) slots id me i f (gives t (step slots i p 0 none) me)
step-allowed start key t slots id me i p x f told live inside is follows =
    subst (λ k. Allows (Holds k) slots id me i f (gives t (step slots i p 0 none) me)) (sym told)
    (λ s r _ at _. (
      after_add i (unrank_of t p) me.0,
      keeps,
      tt,
      subst (λ y. Racing start (set s.words i (f (slice_index s.words i))) (set s.views id (after_add i y me.0))) (sym is)
          (step-kept start s.words s.views id me.0 i (f (slice_index s.words i)) x at live inside (follows (slice_index s.words i) (r.low i)) r),
      refl,
    ))

-- an atomic step of a part's table is allowed to a seat in it: it plays a word into a cell, as the seat is told in a type
abbrev pub Asks : Part → PartSeat → Ty → ℕ → ℕ → (ℕ → ℕ) → Type 0
Asks part seat t cell p f = (seat.seat.table_id ≡ part.table.shared.table_id) × (cell < part.table.shared.table_id.words)
    × Allows (Holds part.table.shared.key) part.table.shared.table_id.slots seat.seat.id seat.seat.me cell f (gives t (step part.table.shared.table_id.slots cell p 0 none) seat.seat.me)

-- it is, where the word stands for a contribution and the cell's word follows it
asks : (part : Part) (seat : PartSeat) (t : Ty) (cell p x : ℕ) (f : ℕ → ℕ) → seat.seat.table_id ≡ part.table.shared.table_id → cell < length part.start.values → unrank_of t p ≡ x
    → ((n : ℕ) → IsEntry part.start.op n → Follows part.start.op part.start.ty n x (f n)) → Asks part seat t cell p f
asks part seat t cell p x f own inside is follows = (
  own,
  subst (λ n. cell < n) (sym part.sized) inside,
  step-allowed part.start part.table.shared.key t part.table.shared.table_id.slots seat.seat.id seat.seat.me cell p x f part.told seat.working inside is follows,
)

-- a contribution is added
pub asks-add : (part : Part) (seat : PartSeat) (cell x : ℕ) → seat.seat.table_id ≡ part.table.shared.table_id → cell < length part.start.values → part.start.op ≡ acc.Add
    → Asks part seat ty.U32 cell x (λ n. (n + x) % 2 ^ 64)
asks-add part seat cell x own inside by = asks part seat ty.U32 cell x x (λ n. (n + x) % 2 ^ 64) own inside refl (λ n low. follows-add part.start.op part.start.ty n x by)

-- a word is lowered to the rank of a contribution
pub asks-least : (part : Part) (seat : PartSeat) (t : Ty) (cell p x : ℕ) → seat.seat.table_id ≡ part.table.shared.table_id → cell < length part.start.values → part.start.op ≡ acc.Min → x < 2 ^ 32
    → p ≡ rank_of part.start.ty x → unrank_of t p ≡ x → Asks part seat t cell p (λ n. min n p)
asks-least part seat t cell p x own inside by fits ranked is =
    asks part seat t cell p x (λ n. min n p) own inside is (λ n low. follows-min part.start.op part.start.ty n x p by fits ranked low)

-- a word is raised to the rank of a contribution
pub asks-most : (part : Part) (seat : PartSeat) (t : Ty) (cell p x : ℕ) → seat.seat.table_id ≡ part.table.shared.table_id → cell < length part.start.values → part.start.op ≡ acc.Max → x < 2 ^ 32
    → p ≡ rank_of part.start.ty x → unrank_of t p ≡ x → Asks part seat t cell p (λ n. max n p)
asks-most part seat t cell p x own inside by fits ranked is =
    asks part seat t cell p x (λ n. max n p) own inside is (λ n low. follows-max part.start.op part.start.ty n x p by fits ranked low)

-- bits are set, kept or flipped by a contribution
pub asks-or : (part : Part) (seat : PartSeat) (cell x : ℕ) → seat.seat.table_id ≡ part.table.shared.table_id → cell < length part.start.values → part.start.op ≡ acc.Or → x < 2 ^ 32
    → Asks part seat ty.U32 cell x (λ n. bit_or n x)
asks-or part seat cell x own inside by fits = asks part seat ty.U32 cell x x (λ n. bit_or n x) own inside refl (λ n. follows-or part.start.op part.start.ty n x by fits)

pub asks-and : (part : Part) (seat : PartSeat) (cell x : ℕ) → seat.seat.table_id ≡ part.table.shared.table_id → cell < length part.start.values → part.start.op ≡ acc.And
    → Asks part seat ty.U32 cell x (λ n. bit_and n x)
asks-and part seat cell x own inside by = asks part seat ty.U32 cell x x (λ n. bit_and n x) own inside refl (λ n. follows-and part.start.op part.start.ty n x by)

pub asks-xor : (part : Part) (seat : PartSeat) (cell x : ℕ) → seat.seat.table_id ≡ part.table.shared.table_id → cell < length part.start.values → part.start.op ≡ acc.Xor → x < 2 ^ 32
    → Asks part seat ty.U32 cell x (λ n. bit_xor n x)
asks-xor part seat cell x own inside by fits = asks part seat ty.U32 cell x x (λ n. bit_xor n x) own inside refl (λ n. follows-xor part.start.op part.start.ty n x by fits)

pub split-allowed : (start : Start) (id : ℕ) (v : Worker) → 2 ≤ v.share → Splits (Holds start) id v (after_split v) (other_half v)
split-allowed start id v share s r at =
    record { kept = kept-enrol (setting_of start) (race_of start s.words s.views) id v at (stands s.views id v r.kept.team at (omega arith)) share r.kept; low = r.low }

pub join-allowed : (start : Start) (id : ℕ) (v : Worker) (other : ℕ) (w : Worker) → 0 < v.share → 0 < w.share → Joins (Holds start) id v other w (after_join v w) nobody
join-allowed start id v other w live live' s r at ne at' =
    let there : get_elem? s.views other ≡ some w = sym (set_other_at s.views id other (after_join v w) ne) ∙ at' in
    record {
      kept = kept-join (setting_of start) (race_of start s.words s.views) id other v w ne at there (stands s.views id v r.kept.team at live) (stands s.views other w r.kept.team there live')
          (folded_exchanged start.op start.ty) r.kept;
      low = r.low;
    }

-- ---- the end
fold-given : (into : ℕ → ℕ → ℕ) (c a : ℕ) (xs : List (ℕ × ℕ)) → fold_in into c a xs ≡ fold into a (given_to c xs)
fold-given into c a [] = refl
fold-given into c a (x ∷ xs) =
    elim (x.0 == c) as (λ b. fold_in into c (cond b (into a x.1) a) xs
    ≡ fold into a (map (λ (y : ℕ × ℕ). y.1) (cond b (x ∷ filter (λ (y : ℕ × ℕ). y.0 == c) xs) (filter (λ (y : ℕ × ℕ). y.0 == c) xs)))) [
      | true ↦ fold-given into c (into a x.1) xs
      | false ↦ fold-given into c a xs
    ]

abbrev many_given : Worker → ℕ
many_given v = length v.given

fold-none : (into : ℕ → ℕ → ℕ) (c a : ℕ) (xs : List (ℕ × ℕ)) → length xs ≡ 0 → fold_in into c a xs ≡ a
fold-none into c a [] e = refl
fold-none into c a (x ∷ xs) e = absurd (omega arith)

all-none : (into : ℕ → ℕ → ℕ) (c a : ℕ) (ws : List Worker) → total many_given ws ≡ 0 → fold_all into c a ws ≡ a
all-none into c a [] e = refl
all-none into c a (w ∷ ws) e = ap (λ b. fold_all into c b ws) (fold-none into c a w.given (omega arith)) ∙ all-none into c a ws (omega arith)

-- if nobody else has given anything, all is what one has given
all-one : (into : ℕ → ℕ → ℕ) (c a : ℕ) (ws : List Worker) (id : ℕ) (v : Worker) → get_elem? ws id ≡ some v → total many_given ws ≡ many_given v → fold_all into c a ws ≡ fold_in into c a v.given
all-one into c a [] id v at e = absurd (some-ne-none v (sym at))
all-one into c a (w ∷ ws) zero v at e =
    let is : w.given ≡ v.given = ap (λ (u : Worker). u.given) (some-injective w v at) in
    let same : length w.given ≡ length v.given = ap length is in
    all-none into c (fold_in into c a w.given) ws (omega arith) ∙ ap (fold_in into c a) is
all-one into c a (w ∷ ws) (suc id) v at e =
    let rest = part many_given ws id v at in
    let nothing : length w.given ≡ 0 = omega arith in
    ap (λ b. fold_all into c b ws) (fold-none into c a w.given nothing) ∙ all-one into c a ws id v at (omega arith)
  where
    part : (f : Worker → ℕ) (ws : List Worker) (id : ℕ) (v : Worker) → get_elem? ws id ≡ some v → f v ≤ total f ws
    part f [] id v at = absurd (some-ne-none v (sym at))
    part f (x ∷ xs) zero v at = let is : f x ≡ f v = ap f (some-injective x v at) in omega arith
    part f (x ∷ xs) (suc id) v at = let r = part f xs id v at in omega arith

pub are_folded : (key start : Start) (words : List ℕ) (views : List Worker) (id : ℕ) (v : Worker) (values : List ℕ) → key ≡ start → Racing key words views → get_elem? views id ≡ some v
    → handed_share v ≡ 16 → values ≡ map (cell_of start.op start.ty) words → AreFolded start.op start.ty start.values (λ c. given_to c v.given) values
are_folded key start words views id v values told racing at all is =
    let r : Racing start words views = subst (λ k. Racing k words views) told racing in
    let into = folded start.op start.ty in
    let cells = r.kept.cells in
    subst (λ l. AreFolded start.op start.ty start.values (λ c. given_to c v.given) l) (sym is) (record {
      long = cells.0;
      folds = λ c below.
          (let under : c < length (map (cell_of start.op start.ty) words) = subst (λ n. c < n) (sym cells.0) below in
          let mine = alone many_given views id v at r.kept.team all refl in
          cells.1 c under ∙ all-one into c (slice_index start.values c) views id v at mine ∙ fold-given into c (slice_index start.values c) v.given);
    })
