-- A walk over levels as a walk over the nodes of the layout.
use Rattle.std.proofs.Common.{◌≡◌, ℕ, zero, suc, ◌+◌, ◌-◌, ◌*◌, ◌<◌, ◌≤◌, Bool, true, false, cond, List, [], ◌∷◌, length, take, drop, refl, sym, ap, ◌∙◌, subst, arith}
use Rattle.std.specs.Prelude.{Some, None, slice_index, slice_get}
use Rattle.sg_words.specs.declared.race.Worker.{Worker}
use Rattle.sg_words.specs.Counts.{pairs}
use Rattle.sg_coord.specs.declared.coord.Coord.{Coord}
use Rattle.sg_layout.specs.declared.shape.Kind.{Kind}
use Rattle.sg_layout.specs.declared.shape.Kind.TheVariants.{Dense, Bitmasked, Pointer, Hash, Dynamic}
use Rattle.sg_layout.specs.declared.shape.NodeShape.{NodeShape}
use Rattle.sg_layout.specs.Axes.{size_of, sizes_of}
use Rattle.sg_layout.specs.Path.{offsets, path}
use Rattle.sg_layout.specs.Live.{kind_or, kind_at}
use Rattle.sg_hash.specs.Tables.{beside}
use Rattle.sg_activate.specs.declared.descent.rule.Start.{Start}
use Rattle.sg_activate.specs.declared.descent.level.Level.{Level}
use Rattle.sg_activate.specs.Descending.{is_fused, last_from, last_fused, nodes_before, table_slot, StepsTo, LeadsTo, KnowsSlot, HasOpened}
use Rattle.sg_activate.specs.steps.DescentWalk.{level_at, IsLevelOf, AreLevelsOf, StepsDown, Leads}

-- ---- levels and nodes
pub get-dropped : (n : ℕ) (xs : List NodeShape) (i : ℕ) → slice_get (drop n xs) i ≡ slice_get xs (n + i)
get-dropped zero xs i = let e : i ≡ 0 + i = omega arith in ap (slice_get xs) e
get-dropped (suc n) [] i = refl
get-dropped (suc n) (x ∷ xs) i = let e : suc (n + i) ≡ suc n + i = omega arith in get-dropped n xs i ∙ ap (slice_get (x ∷ xs)) e

-- an item is there
pub get_there : (xs : List NodeShape) (i : ℕ) → i < length xs → (x : NodeShape) × (slice_get xs i ≡ Some x)
get_there [] i below = absurd (omega arith)
get_there (x ∷ xs) zero below = (x, refl)
get_there (x ∷ xs) (suc i) below = get_there xs i (omega arith)

same_shape : (x y : NodeShape) → Some x ≡ Some y → x ≡ y
same_shape x y e = (cc)

-- levels, one by one, are those of nodes
pub levels_all : (start : Start) (number : ℕ) (nodes : List NodeShape) (levels : List Level)
    → ((k : ℕ) → k < length levels → (node : NodeShape) × (slice_get nodes k ≡ Some node) × IsLevelOf start (number + k) node (level_at levels k)) → AreLevelsOf start number nodes levels
levels_all start number nodes [] each = tt
levels_all start number [] (level ∷ levels) each = let r = each 0 (omega arith) in absurd (none_there r.0 r.1)
  where
    none_there : (node : NodeShape) → None ≡ Some node → ⊥
    none_there node e = (cc)
levels_all start number (node ∷ nodes) (level ∷ levels) each =
    let r = each 0 (omega arith) in
    let e : number + 0 ≡ number = omega arith in (
      subst (λ n. IsLevelOf start number n level) (sym (same_shape node r.0 r.1)) (subst (λ n. IsLevelOf start n r.0 level) e r.2),
      levels_all start (suc number) nodes levels (λ k below.
          (let q = each (suc k) (omega arith) in
          let e' : number + suc k ≡ suc number + k = omega arith in
          (q.0, q.1, subst (λ n. IsLevelOf start n q.0 (level_at levels k)) e' q.2))),
    )

pub size_at : (nodes : List NodeShape) (i : ℕ) (node : NodeShape) → slice_get nodes i ≡ Some node → slice_index (sizes_of nodes) i ≡ size_of node.sizes
size_at [] i node e = absurd (cc)
size_at (x ∷ xs) zero node e = ap (λ (n : NodeShape). size_of n.sizes) (same_shape x node e)
size_at (x ∷ xs) (suc i) node e = size_at xs i node e

pub many-offsets : (nodes : List NodeShape) (at : Coord) → length (offsets nodes at) ≡ length nodes
many-offsets [] at = refl
many-offsets (node ∷ later) at = ap suc (many-offsets later at)

-- ---- one step
module _ (start : Start) (v : Worker) where
  step_to : (number : ℕ) (node : NodeShape) (level : Level) (slot next : ℕ) → IsLevelOf start number node level → StepsDown v level.kind level.first slot next → StepsTo start v number node.kind slot next
  step_to number node level slot next row steps = go node.kind refl (subst (λ k. StepsDown v k level.first slot next) row.kind steps)
    where
      go : (kind : Kind) → node.kind ≡ kind → StepsDown v kind level.first slot next → StepsTo start v number kind slot next
      go Dense e s = s
      go Bitmasked e s = s
      go Pointer e s = subst (λ n. 0 < pairs (n + slot) next v.seen) (row.pointer e).1 s
      go Hash e s = absurd s
      go Dynamic e s = absurd s

  leads_to : (nodes : List NodeShape) (levels : List Level) (number place : ℕ) (offs : List ℕ) (k end : ℕ) → AreLevelsOf start number nodes levels → Leads v levels place offs k end
      → LeadsTo start v nodes number place (take k offs) end
  leads_to nodes levels number place offs zero end are leads = leads
  leads_to nodes [] number place offs (suc k) end are leads = absurd leads
  leads_to nodes (level ∷ levels) number place [] (suc k) end are leads = absurd leads
  leads_to [] (level ∷ levels) number place (o ∷ os) (suc k) end are leads = absurd are
  leads_to (node ∷ nodes) (level ∷ levels) number place (o ∷ os) (suc k) end are leads = (
    leads.0,
    subst (λ n. StepsTo start v number node.kind (place * n + o) leads.0) are.0.size (step_to number node level (place * level.size + o) leads.0 are.0 leads.1),
    leads_to nodes levels (suc number) leads.0 os k end are.1 leads.2,
  )

  -- from the root, or past the hash node by a key's link
  pub leads_whole : (nodes : List NodeShape) (levels : List Level) (base from : ℕ) (offs : List ℕ) (k end : ℕ) → AreLevelsOf start (suc base) (drop base nodes) levels → base ≤ 1 → base ≤ length nodes → base ≤ length offs
      → (base ≡ 0 → from ≡ 0) → (base ≡ 1 → kind_or (slice_get nodes 0) ≡ Hash) → (base ≡ 1 → beside start.keys start.heads (slice_index offs 0) ≡ Some from)
      → Leads v levels from (drop base offs) k end → LeadsTo start v nodes 1 0 (take (base + k) offs) end
  leads_whole nodes levels zero from offs k end are few short short' root hash keyed leads =
      let e : k ≡ 0 + k = omega arith in
      subst (λ n. LeadsTo start v nodes 1 0 (take n offs) end) e (subst (λ p. LeadsTo start v nodes 1 p (take k offs) end) (root refl) (leads_to nodes levels 1 from offs k end are leads))
  leads_whole [] levels (suc zero) from offs k end are few short short' root hash keyed leads = absurd (omega arith)
  leads_whole (node ∷ nodes) levels (suc zero) from [] k end are few short short' root hash keyed leads = absurd (omega arith)
  leads_whole (node ∷ nodes) levels (suc zero) from (o ∷ os) k end are few short short' root hash keyed leads =
      let e : suc k ≡ suc zero + k = omega arith in
      let slot : o ≡ 0 * size_of node.sizes + o = omega arith in
      subst (λ n. LeadsTo start v (node ∷ nodes) 1 0 (take n (o ∷ os)) end) e (
        from,
        subst (λ k. StepsTo start v 1 k (0 * size_of node.sizes + o) from) (sym (hash refl)) (subst (λ s. beside start.keys start.heads s ≡ Some from) slot (keyed refl)),
        leads_to nodes levels 2 from os k end are leads,
      )
  leads_whole nodes levels (suc (suc base)) from offs k end are few short short' root hash keyed leads = absurd (omega arith)

-- ---- a seat that has seen more
module _ (start : Start) (v w : Worker) (more : (i n : ℕ) → 0 < pairs i n v.seen → 0 < pairs i n w.seen) where
  steps_to_more : (number : ℕ) (kind : Kind) (slot next : ℕ) → StepsTo start v number kind slot next → StepsTo start w number kind slot next
  steps_to_more number Dense slot next steps = steps
  steps_to_more number Bitmasked slot next steps = steps
  steps_to_more number Pointer slot next steps = more (table_slot start number slot) next steps
  steps_to_more number Hash slot next steps = steps
  steps_to_more number Dynamic slot next steps = steps

  leads_to_more : (nodes : List NodeShape) (number place : ℕ) (slot : List ℕ) (end : ℕ) → LeadsTo start v nodes number place slot end → LeadsTo start w nodes number place slot end
  leads_to_more nodes number place [] end leads = leads
  leads_to_more [] number place (o ∷ slot) end leads = leads
  leads_to_more (node ∷ later) number place (o ∷ slot) end leads =
      (leads.0, steps_to_more number node.kind (place * size_of node.sizes + o) leads.0 leads.1, leads_to_more later (suc number) leads.0 slot end leads.2)

  pub knows_slot_more : (number : ℕ) (at : Coord) (slot : ℕ) → KnowsSlot start v number at slot → KnowsSlot start w number at slot
  knows_slot_more number at slot k =
      record { place = k.place; leads = leads_to_more start.layout.nodes 1 0 (path start.layout at (number - 1)) k.place k.leads; is_slot = k.is_slot }

-- ---- which nodes there are
pub hash_first : (kind : Kind) → nodes_before kind ≡ 1 → kind ≡ Hash
hash_first Dense e = absurd (omega arith)
hash_first Bitmasked e = absurd (omega arith)
hash_first Pointer e = absurd (omega arith)
hash_first Hash e = refl
hash_first Dynamic e = absurd (omega arith)

pub few_before : (kind : Kind) → nodes_before kind ≤ 1
few_before Dense = omega arith
few_before Bitmasked = omega arith
few_before Pointer = omega arith
few_before Hash = omega arith
few_before Dynamic = omega arith

either_last : (P : ℕ → Type 0) (b : Bool) (number last : ℕ) → P number → P last → P (cond b number last)
either_last P true number last one other = one
either_last P false number last one other = other

last-grows : (nodes : List NodeShape) (number last : ℕ) → last < number → last ≤ last_from number nodes last
last-grows [] number last below = omega arith
last-grows (node ∷ later) number last below =
    let a = last-grows later (suc number) number (omega arith) in
    let b = last-grows later (suc number) last (omega arith) in
    either_last (λ l. last ≤ last_from (suc number) later l) (is_fused node.kind) number last (omega arith) b

pub fused-below : (nodes : List NodeShape) (number last j : ℕ) → last < number → is_fused (kind_or (slice_get nodes j)) ≡ true → number + j ≤ last_from number nodes last
fused-below [] number last j below fused = absurd (cc)
fused-below (node ∷ later) number last zero below fused =
    let r = last-grows later (suc number) number (omega arith) in
    subst (λ b. number + 0 ≤ last_from (suc number) later (cond b number last)) (sym fused) (omega arith)
fused-below (node ∷ later) number last (suc j) below fused =
    let a = fused-below later (suc number) number j (omega arith) fused in
    let b = fused-below later (suc number) last j (omega arith) fused in
    either_last (λ l. number + suc j ≤ last_from (suc number) later l) (is_fused node.kind) number last (omega arith) (omega arith)

-- nodes past the last fused one are open in any case
pub opened_past : (start : Start) (v : Worker) (number : ℕ) (at : Coord) → 1 ≤ number → last_fused start.layout < number → HasOpened start v (kind_at start.layout.nodes number) number at
opened_past start v number at first past = go (kind_at start.layout.nodes number) refl
  where
    not : is_fused (kind_at start.layout.nodes number) ≡ true → ⊥
    not fused = let r = fused-below start.layout.nodes 1 0 (number - 1) (omega arith) fused in omega arith

    go : (kind : Kind) → kind_at start.layout.nodes number ≡ kind → HasOpened start v kind number at
    go Dense e = tt
    go Bitmasked e = absurd (not (ap is_fused e))
    go Pointer e = absurd (not (ap is_fused e))
    go Hash e = tt
    go Dynamic e = tt
