-- What a walk over levels leaves, said of the layout's nodes.
use Rattle.std.proofs.Common.{◌≡◌, ◌≢◌, ℕ, suc, ◌+◌, ◌-◌, ◌*◌, ◌^◌, ◌<◌, ◌≤◌, inl, inr, Bool, true, false, cond, ◌==◌, nat_lt, List, [], ◌∷◌, length, drop, refl, sym, ap, ◌∙◌, subst, arith}
use Rattle.std.specs.Prelude.{Option, Some, None, IsSome, unwrap_or, slice_index, slice_get}
use Rattle.std.proofs.lemmas.List.{get_or-drop, length-drop}
use Rattle.std.proofs.lemmas.Bool.Decides.{nat_tests}
use Rattle.sg_words.proofs.Uses.{first_cases}
use mathlib.Core.Logic.{dite}
use native.Mathlib.Decide.{dec_le}
use Rattle.sg_words.specs.declared.race.Worker.{Worker}
use Rattle.sg_words.specs.Counts.{pairs, firsts, times_in}
use Rattle.sg_coord.specs.declared.coord.Coord.{Coord}
use Rattle.sg_coord.specs.Coord.{Inside}
use Rattle.sg_layout.specs.declared.shape.Kind.{Kind}
use Rattle.sg_layout.specs.declared.shape.Kind.TheVariants.{Dense, Bitmasked, Pointer, Hash, Dynamic}
use Rattle.sg_layout.specs.declared.shape.NodeShape.{NodeShape}
use Rattle.sg_layout.specs.Axes.{sizes_of, bounds_of_shape}
use Rattle.sg_layout.specs.Path.{offsets, path}
use Rattle.sg_layout.specs.Live.{kind_or, kind_at}
use Rattle.sg_hash.specs.Tables.{beside}
use Rattle.sg_words.specs.Ranges.{range_at}
use Rattle.sg_activate.specs.declared.descent.seat.DescentPass.{DescentPass}
use Rattle.sg_activate.specs.declared.descent.walk.Reach.TheVariants as reach
use Rattle.sg_activate.specs.TableParts.{first_of}
use Rattle.sg_activate.specs.DescentRace.{slots_each, was_live}
use Rattle.sg_activate.specs.Descending.{LeadsTo, KnowsSlot, HasOpened, HasOpenedAbove, HasMissedSlot, IsAnswered, IsSlotFor, IsBitFor, KnowsKey, KnowsMore, GrewFor}
use Rattle.sg_activate.specs.Descents.{AreInside}
use Rattle.sg_activate.specs.steps.DescentWalk.{level_at, places_at, IsLevelOf, AreLevelsOf, KnowsLevelSlot}
use Rattle.sg_activate.specs.steps.DescentReaching.{offsets_below, place_from, HasOpenedLevel, IsOpenAt, IsOpenAbove, IsMissedAt, IsWalked, BeginsAt, IsLevelSlot, IsLevelBit, GrewBy}
use Rattle.sg_activate.proofs.DescentWalks.{slot-within}
use Rattle.sg_activate.proofs.DescentBridge.{get-dropped, get_there, levels_all, size_at, many-offsets, leads_whole, knows_slot_more, hash_first, few_before, opened_past}

-- ---- the pass and its layout
pub few_base : (p : DescentPass) → p.base ≤ 1
few_base p = subst (λ n. n ≤ 1) (sym p.based) (few_before (kind_at p.start.layout.nodes 1))

pub base_hash : (p : DescentPass) → p.base ≡ 1 → kind_at p.start.layout.nodes 1 ≡ Hash
base_hash p one = hash_first (kind_at p.start.layout.nodes 1) (sym p.based ∙ one)

pub long_below : (p : DescentPass) (at : Coord) → length p.levels ≤ length (offsets_below p.start p.base at)
long_below p at =
    let d = length-drop p.base (offsets p.start.layout.nodes at) in
    let m = many-offsets p.start.layout.nodes at in
    let w = p.within in omega arith

-- the node of a level, by its number
pub node_of : (p : DescentPass) (k : ℕ) → k < length p.levels
    → (node : NodeShape) × (slice_get p.start.layout.nodes (p.base + k) ≡ Some node) × IsLevelOf p.start (suc (p.base + k)) node (level_at p.levels k)
node_of p k below =
    let is = p.levels_are k below in
    let got = get_there p.start.layout.nodes (p.base + k) is.there in
    let back : suc (p.base + k) - 1 ≡ p.base + k = omega arith in
    let kind : (level_at p.levels k).kind ≡ got.0.kind = is.kind ∙ ap (λ i. kind_or (slice_get p.start.layout.nodes i)) back ∙ ap kind_or got.1 in (
      got.0,
      got.1,
      record {
        kind = kind;
        size = is.size ∙ size_at p.start.layout.nodes (p.base + k) got.0 got.1;
        pointer = λ e. is.pointer (kind ∙ e);
        masked = λ e. is.masked (kind ∙ e);
      },
    )

pub levels_of : (p : DescentPass) → AreLevelsOf p.start (suc p.base) (drop p.base p.start.layout.nodes) p.levels
levels_of p = levels_all p.start (suc p.base) (drop p.base p.start.layout.nodes) p.levels (λ k below.
    (let row = node_of p k below in
    let e : suc (p.base + k) ≡ suc p.base + k = omega arith in
    (row.0, get-dropped p.base p.start.layout.nodes k ∙ row.1, subst (λ n. IsLevelOf p.start n row.0 (level_at p.levels k)) e row.2)))

pub kind_of : (p : DescentPass) (k : ℕ) → k < length p.levels → kind_at p.start.layout.nodes (suc (p.base + k)) ≡ (level_at p.levels k).kind
kind_of p k below = let is = p.levels_are k below in sym is.kind

pub size_of_level : (p : DescentPass) (k : ℕ) → k < length p.levels → (level_at p.levels k).size ≡ slice_index (sizes_of p.start.layout.nodes) (p.base + k)
size_of_level p k below = let is = p.levels_are k below in is.size

-- a slot fits its type
pub slot_small : (p : DescentPass) (k place offset : ℕ) → k < length p.levels → place < places_at p.start p.start.head_places p.levels k → offset < (level_at p.levels k).size
    → place * (level_at p.levels k).size + offset < 2 ^ 47
slot_small p k place offset below within inside =
    let s = slot-within place (level_at p.levels k).size offset (places_at p.start p.start.head_places p.levels k) within inside in
    let most = p.small k below in omega arith

module _ (p : DescentPass) (at : Coord) (begins : BeginsAt p.start p.base at) where
  -- ---- a slot that is known
  pub knows_to : (v : Worker) (k slot : ℕ) → k < length p.levels → KnowsLevelSlot v p.levels (place_from p.start p.base at) (offsets_below p.start p.base at) k slot
      → KnowsSlot p.start v (suc (p.base + k)) at slot
  knows_to v k slot below knows =
      let back : suc (p.base + k) - 1 ≡ p.base + k = omega arith in
      let m = many-offsets p.start.layout.nodes at in
      let w = p.within in
      let few = few_base p in
      let offs = offsets p.start.layout.nodes at in
      let leads = leads_whole p.start v p.start.layout.nodes p.levels p.base (place_from p.start p.base at) offs k knows.place (levels_of p) few (omega arith) (omega arith)
      (λ zero'. ap (λ b. place_from p.start b at) zero') (λ one. base_hash p one) begins.keyed knows.leads in
      record {
        place = knows.place;
        leads = subst (λ n. LeadsTo p.start v p.start.layout.nodes 1 0 (path p.start.layout at n) knows.place) (sym back) leads;
        is_slot = subst (λ n. slot ≡ knows.place * slice_index (sizes_of p.start.layout.nodes) n + slice_index offs n) (sym back)
            (knows.is_slot ∙ ap (λ s. knows.place * s + slice_index (drop p.base offs) k) (size_of_level p k below)
            ∙ ap (λ o. knows.place * slice_index (sizes_of p.start.layout.nodes) (p.base + k) + o) (get_or-drop p.base offs k 0));
      }

  -- ---- what is open
  opened_to : (v : Worker) (k : ℕ) → k < length p.levels → IsOpenAt v p.levels (place_from p.start p.base at) (offsets_below p.start p.base at) k
      → HasOpened p.start v (kind_at p.start.layout.nodes (suc (p.base + k))) (suc (p.base + k)) at
  opened_to v k below o =
      let row = node_of p k below in
      let number = suc (p.base + k) in
      let level = level_at p.levels k in
      let knows = knows_to v k o.slot below o.knows in
      subst (λ kind. HasOpened p.start v kind number at) (row.2.kind ∙ sym row.2.kind ∙ sym (kind_of p k below)) (go knows level.kind refl o.opened)
    where
      go : KnowsSlot p.start v (suc (p.base + k)) at o.slot → (kind : Kind) → (level_at p.levels k).kind ≡ kind → HasOpenedLevel v kind ((level_at p.levels k).first + o.slot) → HasOpened p.start v kind (suc (p.base + k)) at
      go knows Dense e h = tt
      go knows Bitmasked e h =
          let row = node_of p k below in
          record { slot = o.slot; knows = knows; marked = subst (λ n. 0 < times_in (n + o.slot) v.marked) (row.2.masked (sym row.2.kind ∙ e)).1 h }
      go knows Pointer e h =
          let row = node_of p k below in
          record { slot = o.slot; knows = knows; next = h.0; seen = subst (λ n. 0 < pairs (n + o.slot) h.0 v.seen) (row.2.pointer (sym row.2.kind ∙ e)).1 h.1 }
      go knows Hash e h = tt
      go knows Dynamic e h = tt

  above_to : (v : Worker) (k : ℕ) → k ≤ length p.levels → IsOpenAbove v p.levels (place_from p.start p.base at) (offsets_below p.start p.base at) k → HasOpenedAbove p.start v (suc (p.base + k)) at
  above_to v k fits opened number first below = dite (dec_le number p.base)
      (λ above.
      let few = few_base p in
      let one : number ≡ 1 = omega arith in
      let is : p.base ≡ 1 = omega arith in
      subst (λ kind. HasOpened p.start v kind number at) (sym (ap (kind_at p.start.layout.nodes) one ∙ base_hash p is)) tt)
      (λ past.
      let j = number - 1 - p.base in
      let e : suc (p.base + j) ≡ number = omega arith in
      subst (λ n. HasOpened p.start v (kind_at p.start.layout.nodes n) n at) e (opened_to v j (omega arith) (opened j (omega arith))))

  missed_to : (v : Worker) (k : ℕ) → IsMissedAt v p.levels (place_from p.start p.base at) (offsets_below p.start p.base at) k → HasMissedSlot p.start v (suc (p.base + k)) at
  missed_to v k missed =
      let row = node_of p k missed.there in
      let kind : row.0.kind ≡ Pointer = sym row.2.kind ∙ missed.pointer in
      record {
        pointer = kind_of p k missed.there ∙ missed.pointer;
        slot = missed.slot;
        knows = knows_to v k missed.slot missed.there missed.knows;
        missed = subst (λ n. 0 < times_in (n + missed.slot) v.missed) (row.2.pointer kind).1 missed.missed;
        past = subst (λ l. 0 < firsts l v.past) (row.2.pointer kind).0 missed.past;
      }

  pub answered_open : (v : Worker) → IsWalked v p.levels (place_from p.start p.base at) (offsets_below p.start p.base at) None → IsAnswered p.start v at reach.Open
  answered_open v walked number first below = dite (dec_le number (p.base + length p.levels))
      (λ above. above_to v (length p.levels) (omega arith) walked number first (omega arith))
      (λ past. let through = p.through in opened_past p.start v number at first (omega arith))

  pub answered_dry : (v : Worker) (k node : ℕ) → node ≡ suc (p.base + k) → IsWalked v p.levels (place_from p.start p.base at) (offsets_below p.start p.base at) (Some k) → IsAnswered p.start v at (reach.Dry node)
  answered_dry v k node is walked =
      let there = walked.1.there in
      subst (λ n. IsAnswered p.start v at (reach.Dry n)) (sym is) (above_to v k (omega arith) walked.0, missed_to v k walked.1)

  -- ---- what was made and marked
  slot_to : (v : Worker) (i : ℕ) → IsLevelSlot v p.levels (place_from p.start p.base at) (offsets_below p.start p.base at) i → IsSlotFor p.start v at i
  slot_to v i is =
      let row = node_of p is.k is.there in
      let kind : row.0.kind ≡ Pointer = sym row.2.kind ∙ is.pointer in
      record {
        number = suc (p.base + is.k);
        first = omega arith;
        pointer = kind_of p is.k is.there ∙ is.pointer;
        slot = is.slot;
        knows = knows_to v is.k is.slot is.there is.knows;
        is = is.is ∙ ap (λ n. n + is.slot) (row.2.pointer kind).1;
      }

  bit_to : (v : Worker) (b : ℕ) → IsLevelBit v p.levels (place_from p.start p.base at) (offsets_below p.start p.base at) b → IsBitFor p.start v at b
  bit_to v b is =
      let row = node_of p is.k is.there in
      let kind : row.0.kind ≡ Bitmasked = sym row.2.kind ∙ is.masked in
      record {
        number = suc (p.base + is.k);
        first = omega arith;
        masked = kind_of p is.k is.there ∙ is.masked;
        slot = is.slot;
        knows = knows_to v is.k is.slot is.there is.knows;
        is = is.is ∙ ap (λ n. n + is.slot) (row.2.masked kind).1;
      }

  pub grew_to : (v w : Worker) → GrewBy p.levels (place_from p.start p.base at) (offsets_below p.start p.base at) v w → GrewFor p.start at v w
  grew_to v w grew = record {
    made = λ i t has. elim (grew.made i t has) [
      | inl had ↦ inl had
      | inr is ↦ inr (slot_to w i is)
    ];
    marked = λ b has. elim (grew.marked b has) [
      | inl had ↦ inl had
      | inr is ↦ inr (bit_to w b is)
    ];
  }

-- ---- seats that know more
module _ (p : DescentPass) where
  pub slot_for_more : (v w : Worker) (at : Coord) (i : ℕ) → ((i n : ℕ) → 0 < pairs i n v.seen → 0 < pairs i n w.seen) → IsSlotFor p.start v at i → IsSlotFor p.start w at i
  slot_for_more v w at i more is =
      record { number = is.number; first = is.first; pointer = is.pointer; slot = is.slot; knows = knows_slot_more p.start v w more is.number at is.slot is.knows; is = is.is }

  pub bit_for_more : (v w : Worker) (at : Coord) (b : ℕ) → ((i n : ℕ) → 0 < pairs i n v.seen → 0 < pairs i n w.seen) → IsBitFor p.start v at b → IsBitFor p.start w at b
  bit_for_more v w at b more is =
      record { number = is.number; first = is.first; masked = is.masked; slot = is.slot; knows = knows_slot_more p.start v w more is.number at is.slot is.knows; is = is.is }

  pub inside_after : (v w : Worker) (at : Coord) → AreInside p.start v → Inside (bounds_of_shape p.start.layout) at → KnowsMore v w → GrewFor p.start at v w → AreInside p.start w
  inside_after v w at are inside more grew = record {
    made = λ i t has. elim (grew.made i t has) [
      | inl had ↦ let old = are.made i t had in (old.0, old.1, slot_for_more v w old.0 i more.seen old.2)
      | inr is ↦ (at, inside, is)
    ];
    marked = λ b has. elim (grew.marked b has) [
      | inl had ↦ let old = are.marked b had in (old.0, old.1, bit_for_more v w old.0 b more.seen old.2)
      | inr is ↦ (at, inside, is)
    ];
  }

-- ---- where a walk begins
-- the number beside a key stands among the links
same_Some : (x y : ℕ) → Some x ≡ Some y → x ≡ y
same_Some x y e = (cc)

beside-linked : (keys links : List ℕ) (key n : ℕ) → length keys ≡ length links → ((p : ℕ) → p < length keys → slice_index keys p ≢ 0 → 0 < slice_index links p)
    → beside keys links key ≡ Some n → (i : ℕ) × (slice_index links i ≡ n + 1) × (0 < times_in (n + 1) links)
beside-linked [] links key n many linked e = absurd (cc)
beside-linked (word ∷ keys) [] key n many linked e = absurd (omega arith)
beside-linked (word ∷ keys) (link ∷ links) key n many linked e =
    go (λ h. beside-linked keys links key n (omega arith) (λ p below. linked (suc p) (omega arith)) h) (word == key + 1) refl e
  where
    go : (beside keys links key ≡ Some n → (i : ℕ) × (slice_index links i ≡ n + 1) × (0 < times_in (n + 1) links)) → (b : Bool) → (word == key + 1) ≡ b → cond b (Some (link - 1)) (beside keys links key) ≡ Some n
        → (i : ℕ) × (slice_index (link ∷ links) i ≡ n + 1) × (0 < times_in (n + 1) (link ∷ links))
    go later true e' h =
        let full : word ≢ 0 = (λ z. grind (arith, nat_tests)) in
        let some = linked 0 (omega arith) full in
        let number : link - 1 ≡ n = same_Some (link - 1) n h in
        let is : link ≡ n + 1 = omega arith in
        (0, is, first_cases (λ k. 0 < k + times_in (n + 1) links) link (n + 1) (λ _. omega arith) (λ ne. absurd (ne is)))
    go later false e' h =
        let r = later h in
        let has = r.2 in
        (suc r.0, r.1, omega arith)

at_heads : (p : DescentPass) (n : ℕ) → 0 < times_in (n + 1) p.start.heads → was_live p.start (length p.start.slot_parts, n) ≡ true
at_heads p n has =
    let here : (length p.start.slot_parts == length p.start.slot_parts) ≡ true = grind (arith, nat_tests) in
    let live : nat_lt 0 (times_in (n + 1) p.start.heads) ≡ true = grind (arith, nat_tests) in
    ap (λ b. nat_lt 0 (times_in (n + 1) (cond b p.start.heads (range_at (first_of (slots_each p.start) (length p.start.slot_parts)) (slice_index (slots_each p.start) (length p.start.slot_parts)) p.start.links)))) here ∙ live

pub begins_root : (p : DescentPass) (at : Coord) → p.base ≡ 0 → (0 ≡ place_from p.start p.base at) × BeginsAt p.start p.base at
begins_root p at zero' =
    let from : place_from p.start p.base at ≡ 0 = ap (λ b. place_from p.start b at) zero' in
    let heads = p.heads.root zero' in
    let places = heads.1 in
    let has : 0 < times_in (0 + 1) p.start.heads = subst (λ l. 0 < times_in (0 + 1) l) (sym heads.0) (omega arith) in (
      sym from,
      record {
        keyed = λ one. absurd (omega arith);
        within = omega arith;
        live = subst (λ n. was_live p.start (length p.start.slot_parts, n) ≡ true) (sym from) (at_heads p 0 has);
      },
    )

pub begins_key : (p : DescentPass) (at : Coord) (key n : ℕ) → p.base ≢ 0 → key ≡ slice_index (offsets p.start.layout.nodes at) 0 → beside p.start.keys p.start.heads key ≡ Some n
    → (n ≡ place_from p.start p.base at) × BeginsAt p.start p.base at
begins_key p at key n some is found =
    let few = few_base p in
    let one : p.base ≡ 1 = omega arith in
    let found' : beside p.start.keys p.start.heads (slice_index (offsets p.start.layout.nodes at) 0) ≡ Some n = subst (λ k. beside p.start.keys p.start.heads k ≡ Some n) is found in
    let from : place_from p.start p.base at ≡ n = ap (λ b. place_from p.start b at) one ∙ ap (λ o. unwrap_or o 0) found' in
    let links = p.heads.links one in
    let linked = beside-linked p.start.keys p.start.heads key n links.many (λ q below full. (links.linked q below full).0) found in
    let small = p.heads.small linked.0 in
    let word = linked.1 in (
      sym from,
      record {
        keyed = λ _. found' ∙ ap Some (sym from);
        within = subst (λ n. n < p.start.head_places) (sym from) (omega arith);
        live = subst (λ n. was_live p.start (length p.start.slot_parts, n) ≡ true) (sym from) (at_heads p n linked.2);
      },
    )

pub no_key : (p : DescentPass) (at : Coord) (key : ℕ) → p.base ≢ 0 → key ≡ slice_index (offsets p.start.layout.nodes at) 0 → beside p.start.keys p.start.heads key ≡ None → KnowsKey p.start at → ⊥
no_key p at key some is none knows =
    let few = few_base p in
    let one : p.base ≡ 1 = omega arith in
    let hash = knows (base_hash p one) in
    let none' : beside p.start.keys p.start.heads (slice_index (offsets p.start.layout.nodes at) 0) ≡ None = subst (λ k. beside p.start.keys p.start.heads k ≡ None) is none in
    let h : false ≡ true = subst (λ (o : Option ℕ). IsSome o) none' hash in cc
