use Rattle.std.proofs.Common.{◌≡◌, ℕ, List, length, inl, inr, sym, ap, subst, arith}
use Rattle.std.proofs.lemmas.List.{length-replicate}
use Rattle.std.proofs.lemmas.Option.{none-some}
use Rattle.sg_layout.specs.declared.shape.Kind.TheVariants.{Dense, Bitmasked, Pointer, Hash, Dynamic}
use Rattle.sg_pool.specs.Numbers.{place_count}
use Rattle.sg_store.specs.steps.Noting.{ChainsNoted, HasSlots}
use Rattle.sg_store.proofs.NotedNodes.{as_kind, pointer_below, pointer_slots, hash_below, hash_once, hash_slots, chains_short, dynamic_slots, no_slots}
use Rattle.sg_store.proofs.held.held_slots.Goals.{in-Dense, in-Pointer, in-Hash, in-Dynamic}
use Rattle.sg_store.proofs.held.held_slots.Goals as goal

pub note_links-requires-clause-within : goal.note_links-requires-clause-within
note_links-requires-clause-within c = λ place number at.
    let own = as_kind c.args.node.now c.args.kept.now Pointer c.in-Pointer.is c.requires.node in
    omega (arith, pointer_below c.args.node.now c.args.kept.now own.0 own.1 own.2 place number at, ap length c.in_ok-slots.ensures, length-replicate {A = ℕ} c.places.result 0, c.places.ensures.places)

pub note_keys-requires-clause-within : goal.note_keys-requires-clause-within
note_keys-requires-clause-within c = λ place number at.
    let own = as_kind c.args.node.now c.args.kept.now Hash c.in-Hash.is c.requires.node in
    omega (arith, hash_below c.args.node.now c.args.kept.now own.0 own.1 own.2 place number at, ap length c.in_ok-slots.ensures, length-replicate {A = ℕ} c.places.result 0, c.places.ensures.places)

pub note_keys-requires-clause-once : goal.note_keys-requires-clause-once
note_keys-requires-clause-once c =
    let own = as_kind c.args.node.now c.args.kept.now Hash c.in-Hash.is c.requires.node in
    hash_once c.args.node.now c.args.kept.now own.0 own.1 own.2

pub note_chains-requires-clause-short : goal.note_chains-requires-clause-short
note_chains-requires-clause-short c = λ head.
    let own = as_kind c.args.node.now c.args.kept.now Dynamic c.in-Dynamic.is c.requires.node in
    omega (arith, chains_short c.args.node.now c.args.kept.now own.0 own.1 own.2 head, c.requires.full)

pub returns : goal.returns
returns c =
    let node = c.args.node.now in
    let kept = c.args.kept.now in
    let old : List ℕ = c.in_ok-slots.slots in
    let many : length c.in_ok-slots.slots ≡ place_count c.args.kept.now.pool = omega (arith, ap length c.in_ok-slots.ensures, length-replicate {A = ℕ} c.places.result 0, c.places.ensures.places) in
    elim c.match-node.branch [
      | in-Dense w ↦ subst (HasSlots node kept) (sym w.slots-is) (elim w.in-Dense.is [
        | inl e ↦ no_slots node kept Dense old e (λ slot number holds. none-some number holds) many
        | inr e ↦ no_slots node kept Bitmasked old e (λ slot number holds. none-some number holds) many
      ])
      | in-Pointer w ↦ subst (HasSlots node kept) (sym w.slots-is)
          (pointer_slots node kept old w.note_links.new.slots w.in-Pointer.is many
          w.note_links.ensures)
      | in-Hash w ↦
          let own = as_kind node kept Hash w.in-Hash.is c.requires.node in
          subst (HasSlots node kept) (sym w.slots-is)
          (hash_slots node kept own.0 own.1 old w.note_keys.new.slots w.in-Hash.is own.2 many
          w.note_keys.ensures)
      | in-Dynamic w ↦ subst (HasSlots node kept) (sym w.slots-is)
          (dynamic_slots node kept old w.note_chains.new.slots w.in-Dynamic.is many
          (subst (λ full. ChainsNoted kept.chains full (length kept.chains.lists) old w.note_chains.new.slots) c.requires.full w.note_chains.ensures))
    ]
