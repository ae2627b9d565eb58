-- Parts of the words of a table: which part a place is of, how parts follow one another, and the bits of a part of the masks.
use Rattle.std.proofs.Common.{◌≡◌, ℕ, zero, suc, ◌+◌, ◌-◌, ◌*◌, ◌/◌, ◌%◌, ◌<◌, ◌≤◌, inl, inr, min, Bool, true, false, cond, ◌==◌, nat_lt, List, [], ◌∷◌, length, take, drop, filter, refl, sym, ap, ◌∙◌, subst, arith}
use Rattle.std.specs.Prelude.{slice_index, slice_get, IsTrue}
use Rattle.std.proofs.lemmas.Bool.{cases_lt}
use Rattle.std.proofs.lemmas.Bool.Decides.{nat_tests}
use Rattle.std.proofs.lemmas.List.{length-take, get_or_past}
use Rattle.std.proofs.lemmas.Nat.Bits.{bit_at-zero}
use Rattle.std.specs.Int.{bit_at}
use Rattle.sg_words.specs.declared.race.Worker.{Worker}
use Rattle.sg_words.specs.Counts.{times_in, bit_in}
use Rattle.sg_words.specs.RaceInvariant.{has_marked}
use Rattle.sg_words.proofs.Uses.{alone, range-get, range-long}
use Rattle.sg_layout.specs.declared.shape.Kind.{Kind}
use Rattle.sg_layout.specs.declared.shape.NodeShape.{NodeShape}
use Rattle.sg_layout.specs.Live.{kind_or}
use Rattle.sg_words.specs.Ranges.{range_at}
use Rattle.sg_store.specs.Slots.{mask_bit}
use Rattle.sg_activate.specs.declared.descent.rule.Start.{Start}
use Rattle.sg_activate.specs.TableParts.{places_in, first_of, part_of}
use Rattle.sg_activate.specs.steps.DescentEnds.{HasEnded}

-- ---- parts
-- a place stands in its part
pub part-alone : (sizes : List ℕ) (i : ℕ) → i < places_in sizes → (first_of sizes (part_of sizes i) ≤ i) × (i < first_of sizes (part_of sizes i) + slice_index sizes (part_of sizes i))
part-alone [] i below = absurd (omega arith)
part-alone (n ∷ ns) i below = go (nat_lt i n) refl (λ h. part-alone ns (i - n) h)
  where
    go : (b : Bool) → nat_lt i n ≡ b → (i - n < places_in ns → (first_of ns (part_of ns (i - n)) ≤ i - n) × (i - n < first_of ns (part_of ns (i - n)) + slice_index ns (part_of ns (i - n))))
        → (first_of (n ∷ ns) (cond b 0 (suc (part_of ns (i - n)))) ≤ i) × (i < first_of (n ∷ ns) (cond b 0 (suc (part_of ns (i - n)))) + slice_index (n ∷ ns) (cond b 0 (suc (part_of ns (i - n)))))
    go true e later = let h : i < n = grind (arith, nat_tests) in (omega arith, omega arith)
    go false e later =
        let h : n ≤ i = grind (arith, nat_tests) in
        let r = later (omega arith) in
        let r0 = r.0 in
        let r1 = r.1 in
        (omega arith, omega arith)

-- a part ends where the next begins, or before
pub first-more : (sizes : List ℕ) (l m : ℕ) → l < m → first_of sizes l + slice_index sizes l ≤ first_of sizes m
first-more [] zero m below = omega arith
first-more [] (suc l) m below = omega arith
first-more (n ∷ ns) l zero below = absurd (omega arith)
first-more (n ∷ ns) zero (suc m) below = omega arith
first-more (n ∷ ns) (suc l) (suc m) below = let r = first-more ns l m (omega arith) in omega arith

-- the words of a part are at most as many as it has places
pub part-short : (from many : ℕ) (words : List ℕ) → length (range_at from many words) ≤ many
part-short from many words = let e = length-take many (drop from words) in omega arith

-- of nodes of a kind, fewer stand before one of them than before a later node
more_by : (b : Bool) (x : NodeShape) (xs ys : List NodeShape) → length xs < length ys → length (cond b (x ∷ xs) xs) < length (cond b (x ∷ ys) ys)
more_by true x xs ys less = omega arith
more_by false x xs ys less = less

pub number-more : (is_kind : Kind → Bool) (nodes : List NodeShape) (i j : ℕ) → i < j → i < length nodes → is_kind (kind_or (slice_get nodes i)) ≡ true
    → length (filter (λ (node : NodeShape). is_kind node.kind) (take i nodes)) < length (filter (λ (node : NodeShape). is_kind node.kind) (take j nodes))
number-more is_kind [] i j below there is = absurd (omega arith)
number-more is_kind (node ∷ later) i zero below there is = absurd (omega arith)
number-more is_kind (node ∷ later) zero (suc j) below there is =
    let rest = filter (λ (node : NodeShape). is_kind node.kind) (take j later) in
    subst (λ b. 0 < length (cond b (node ∷ rest) rest)) (sym is) (omega arith)
number-more is_kind (node ∷ later) (suc i) (suc j) below there is =
    more_by (is_kind node.kind) node (filter (λ (node : NodeShape). is_kind node.kind) (take i later)) (filter (λ (node : NodeShape). is_kind node.kind) (take j later))
    (number-more is_kind later i j (omega arith) (omega arith) is)

-- ---- bits
-- a bit of a part of the masks
pub bit-range : (from many : ℕ) (words : List ℕ) (b : ℕ) → b < many * 64 → bit_in (range_at from many words) b ≡ bit_in words (from * 64 + b)
bit-range from many words b below =
    let word : (from * 64 + b) / 64 ≡ from + b / 64 = omega arith in
    let rest : (from * 64 + b) % 64 ≡ b % 64 = omega arith in
    ap (λ w. bit_at w (b % 64)) (range-get from many words (b / 64) (omega arith))
    ∙ ap (λ i. bit_at (slice_index words i) (b % 64)) (sym word) ∙ ap (bit_at (slice_index words ((from * 64 + b) / 64))) (sym rest)

-- past the end no bit is set
bit-past : (words : List ℕ) (b : ℕ) → length words * 64 ≤ b → bit_in words b ≡ 0
bit-past words b past = ap (λ w. bit_at w (b % 64)) (get_or_past words (b / 64) 0 (omega arith)) ∙ bit_at-zero (b % 64)

pub is_one : (n : ℕ) → (n == 1) ≡ true → n ≡ 1
is_one n h = grind (arith, nat_tests)

pub isnt_one : (n : ℕ) → n < 2 → (n == 1) ≡ false → n ≡ 0
isnt_one n small h = grind (arith, nat_tests)

pub one_is : (n : ℕ) → n ≡ 1 → (n == 1) ≡ true
one_is n h = grind (arith, nat_tests)

pub bit_small : (words : List ℕ) (b : ℕ) → bit_in words b < 2
bit_small words b = omega arith

-- a part of the masks at the end: old bits and marked ones are set, and no others
pub record IsMarkedNode (old : List ℕ) (first : ℕ) (v : Worker) (new : List ℕ) : Type 0 where
  pub long : length new ≡ length old
  pub stays : (b : ℕ) → IsTrue (mask_bit old b) → IsTrue (mask_bit new b)
  pub set : (b : ℕ) → b < length old * 64 → 0 < times_in (first * 64 + b) v.marked → IsTrue (mask_bit new b)
  pub marked : (b : ℕ) → mask_bit old b ≡ false → IsTrue (mask_bit new b) → (b < length old * 64) × (0 < times_in (first * 64 + b) v.marked)

pub bits_at_end : (start : Start) (v : Worker) (links masks : List ℕ) (b : ℕ) → HasEnded start v links masks → bit_in masks b ≡ min 1 (bit_in start.masks b + times_in b v.marked)
bits_at_end start v links masks b end =
    end.kept.bits.1 b ∙ ap (λ n. min 1 (bit_in start.masks b + n)) (alone (has_marked b) end.views end.id v end.stands end.kept.team end.all refl)

pub marked_node : (start : Start) (v : Worker) (links masks : List ℕ) (first many : ℕ) → HasEnded start v links masks → first + many ≤ length start.masks
    → IsMarkedNode (range_at first many start.masks) first v (range_at first many masks)
marked_node start v links masks first many end fits =
    let same : length masks ≡ length start.masks = end.kept.bits.0 in
    let old-long : length (range_at first many start.masks) ≡ many = range-long first many start.masks fits in
    let new-long : length (range_at first many masks) ≡ many = range-long first many masks (omega arith) in
    let old : (b : ℕ) → b < many * 64 → bit_in (range_at first many start.masks) b ≡ bit_in start.masks (first * 64 + b) = bit-range first many start.masks in
    let new : (b : ℕ) → b < many * 64 → bit_in (range_at first many masks) b ≡ bit_in masks (first * 64 + b) = bit-range first many masks in
    record {
      long = new-long ∙ sym old-long;
      stays = λ b on. elim (cases_lt b (many * 64)) [
        | inl below ↦
            let o = old b below in
            let n = new b below in
            let e = bits_at_end start v links masks (first * 64 + b) end in
            let was : bit_in (range_at first many start.masks) b ≡ 1 = is_one (bit_in (range_at first many start.masks) b) on in
            one_is (bit_in (range_at first many masks) b) (let h : bit_in (range_at first many masks) b ≡ 1 = omega arith in h)
        | inr past ↦
            let none = bit-past (range_at first many start.masks) b (omega arith) in
            let was : bit_in (range_at first many start.masks) b ≡ 1 = is_one (bit_in (range_at first many start.masks) b) on in
            absurd (omega arith)
      ];
      set = λ b below some.
          let n = new b (omega arith) in
          let e = bits_at_end start v links masks (first * 64 + b) end in
          one_is (bit_in (range_at first many masks) b) (let h : bit_in (range_at first many masks) b ≡ 1 = omega arith in h);
      marked = λ b off on.
          let now : bit_in (range_at first many masks) b ≡ 1 = is_one (bit_in (range_at first many masks) b) on in
          elim (cases_lt b (many * 64)) [
            | inl below ↦
                let o = old b below in
                let n = new b below in
                let e = bits_at_end start v links masks (first * 64 + b) end in
                let was : bit_in (range_at first many start.masks) b ≡ 0 = isnt_one (bit_in (range_at first many start.masks) b) (bit_small (range_at first many start.masks) b) off in
                let some : 0 < times_in (first * 64 + b) v.marked = omega arith in
                (omega arith, some)
            | inr past ↦
                let none = bit-past (range_at first many masks) b (omega arith) in
                absurd (omega arith)
          ];
    }
