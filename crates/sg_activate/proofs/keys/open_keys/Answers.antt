use Rattle.std.proofs.Common.{◌≡◌, ℕ, suc, ◌+◌, ◌<◌, ◌≤◌, ◌⊎◌, inl, inr, List, true, length, sym, ap, subst, arith}
use Rattle.std.specs.Prelude.{OnOk}
use Rattle.std.specs.List.{Contains}
use Rattle.sg_coord.specs.declared.coord.Coord.{Coord}
use Rattle.sg_layout.specs.declared.shape.Kind.TheVariants.{Dense, Hash}
use Rattle.sg_layout.specs.Axes.{count_of}
use Rattle.sg_layout.specs.NeedLaws.{IsNumberedNode}
use Rattle.sg_hash.specs.Seats.{old_keys, old_links, stock_of, worker_of, is_full}
use Rattle.sg_store.specs.Opening.{pool_of, IsPlaceOf, CanSettleHash, WantedHaveKeys, NewKeysAreWanted}
use Rattle.sg_activate.specs.steps.Finding.{found_in}
use Rattle.sg_activate.specs.steps.Keys.{HasFound}
use Rattle.sg_activate.proofs.LinkLevel.{node_there}
use Rattle.sg_activate.proofs.KeySteps.{none_put}
use Rattle.sg_activate.proofs.KeyLevel.{fresh_for_keys, stock_numbers, key_outcome, can_settle_hash, new_keys_are_wanted, wanted_have_keys, keys_are_full}
use Rattle.sg_activate.proofs.keys.open_keys.Goals as goal
use Rattle.sg_activate.proofs.keys.open_keys.Goals.{then-linked-via-then-linked, then-linked-via-else-linked+then-len-numbers}

pub start-requires-clause-fresh : goal.start-requires-clause-fresh
start-requires-clause-fresh g c = fresh_for_keys (pool_of c.args.store.now 1) c.in_ok-links.links c.in_ok-stock.stock c.in_ok-stock.ensures.stock
    (subst (λ l. (number : ℕ) → Contains c.in_ok-stock.stock number → Contains l (suc number) → ⊥) (sym c.in_ok-links.ensures.words) c.in_ok-stock.ensures.unlinked)

pub settle_hash-requires-clause-fits : goal.settle_hash-requires-clause-fits
settle_hash-requires-clause-fits g c = λ shape there.
    let rest = c.in_ok-stock.ensures.rest shape there in
    let taken : length c.as_slice-4.result.now ≡ length c.in_ok-linked.linked.taken = ap length c.as_slice-4.ensures in
    let tested : c.len.result + 17 ≤ c.len-numbers.result = c.if-len-numbers.false in
    let counted : c.len.result ≡ length c.in_ok-linked.linked.taken = c.len.ensures in
    let numbers : c.len-numbers.result ≡ length c.in_ok-stock.stock = c.len-numbers.ensures in
    omega arith

pub settle_hash-requires-clause-can : goal.settle_hash-requires-clause-can
settle_hash-requires-clause-can g c =
    let v = worker_of c.ask_all-seat.result.seat in
    let full = is_full c.ask_all-seat.result.seat in
    let linked = c.in_ok-linked.linked in
    let outcome = key_outcome c.args.store.now c.in_ok-keys.keys c.in_ok-links.links c.in_ok-stock.stock (old_keys c.in_ok-pass.pass) (old_links c.in_ok-pass.pass) (stock_of c.in_ok-pass.pass) v linked.keys linked.links linked.taken full linked.dry
    c.in_ok-keys.ensures.words c.in_ok-links.ensures.words c.in_ok-stock.ensures.stock (stock_numbers c.as_slice.result.now c.in_ok-stock.stock c.as_slice.ensures c.are_numbers.ensures) c.in_ok-pass.ensures.given c.in_ok-linked.ensures.settled c.in_ok-linked.ensures.keys c.in_ok-linked.ensures.dry
    c.in_ok-linked.ensures.taken c.ask_all-seat.ensures.own.1 c.in_ok-keys.ensures.beside c.in_ok-links.ensures.filled in
    subst (λ (t : List ℕ). CanSettleHash c.args.store.now c.as_slice-2.result.now c.as_slice-3.result.now t) (sym c.as_slice-4.ensures)
    (subst (λ (l : List ℕ). CanSettleHash c.args.store.now c.as_slice-2.result.now l linked.taken) (sym c.as_slice-3.ensures)
    (subst (λ (k : List ℕ). CanSettleHash c.args.store.now k linked.links linked.taken) (sym c.as_slice-2.ensures)
    (can_settle_hash c.args.store.now c.in_ok-stock.stock v linked.keys linked.links linked.taken full linked.dry outcome c.if-linked.false)))

pub returns-then-linked-clause-full : goal.returns-then-linked-clause-full
returns-then-linked-clause-full g c =
    let wanted = found_in c.args.work.now.axes c.args.work.now.found.now in
    let v = worker_of c.ask_all-seat.result.seat in
    let full = is_full c.ask_all-seat.result.seat in
    let linked = c.in_ok-linked.linked in
    let outcome = key_outcome c.args.store.now c.in_ok-keys.keys c.in_ok-links.links c.in_ok-stock.stock (old_keys c.in_ok-pass.pass) (old_links c.in_ok-pass.pass) (stock_of c.in_ok-pass.pass) v linked.keys linked.links linked.taken full linked.dry
    c.in_ok-keys.ensures.words c.in_ok-links.ensures.words c.in_ok-stock.ensures.stock (stock_numbers c.as_slice.result.now c.in_ok-stock.stock c.as_slice.ensures c.are_numbers.ensures) c.in_ok-pass.ensures.given c.in_ok-linked.ensures.settled c.in_ok-linked.ensures.keys c.in_ok-linked.ensures.dry
    c.in_ok-linked.ensures.taken c.ask_all-seat.ensures.own.1 c.in_ok-keys.ensures.beside c.in_ok-links.ensures.filled in
    let node = node_there c.args.store.now.shape.nodes 1 Hash c.requires.hash (λ (e : Hash ≡ Dense). (cc)) in
    let there : IsNumberedNode c.args.store.now.shape 1 node.0 = record { first = omega arith; there = node.1 } in
    let rest = c.in_ok-stock.ensures.rest node.0 there in
    let more = subst (λ (k : List ℕ). count_of node.0.cap < length k) c.in_ok-keys.ensures.words (c.in_ok-keys.ensures.more node.0 there) in
    let past : (linked.dry ≡ true) ⊎ (length c.in_ok-stock.stock < length linked.taken + 17) = elim c.then-linked.branch [
      | then-linked-via-then-linked w ↦ inl w.if-linked.true
      | then-linked-via-else-linked+then-len-numbers w ↦
          let tested : c.len-numbers.result < w.len.result + 17 = w.if-len-numbers.true in
          let counted : w.len.result ≡ length c.in_ok-linked.linked.taken = w.len.ensures in
          let numbers : c.len-numbers.result ≡ length c.in_ok-stock.stock = c.len-numbers.ensures in
          inr (omega arith)
    ] in
    keys_are_full c.args.store.now c.in_ok-stock.stock v linked.keys linked.links linked.taken full linked.dry outcome c.cap_at-cap.result (c.opening_by_nodes.ensures.keys c.args.store.now) c.layout.ensures.well_formed node.0 there node.2
    (c.cap_at-cap.ensures node.0 there) rest more past wanted c.ask_all-seat.ensures.made

pub returns-clause-opened : goal.returns-clause-opened
returns-clause-opened g c =
    let wanted = found_in c.args.work.now.axes c.args.work.now.found.now in
    let v = worker_of c.ask_all-seat.result.seat in
    let full = is_full c.ask_all-seat.result.seat in
    let linked = c.in_ok-linked.linked in
    let outcome = key_outcome c.args.store.now c.in_ok-keys.keys c.in_ok-links.links c.in_ok-stock.stock (old_keys c.in_ok-pass.pass) (old_links c.in_ok-pass.pass) (stock_of c.in_ok-pass.pass) v linked.keys linked.links linked.taken full linked.dry
    c.in_ok-keys.ensures.words c.in_ok-links.ensures.words c.in_ok-stock.ensures.stock (stock_numbers c.as_slice.result.now c.in_ok-stock.stock c.as_slice.ensures c.are_numbers.ensures) c.in_ok-pass.ensures.given c.in_ok-linked.ensures.settled c.in_ok-linked.ensures.keys c.in_ok-linked.ensures.dry
    c.in_ok-linked.ensures.taken c.ask_all-seat.ensures.own.1 c.in_ok-keys.ensures.beside c.in_ok-links.ensures.filled in
    let met : (at : Coord) → Contains wanted at → HasFound c.args.store.now at v full =
    subst (λ r. OnOk r ((at : Coord) → Contains wanted at → HasFound c.args.store.now at v full)) c.in_ok-done.was c.ask_all-seat.ensures.met in
    c.settle_hash.ensures.opened wanted
    (subst (λ (k : List ℕ). WantedHaveKeys c.args.store.now k wanted) (sym c.as_slice-2.ensures) (wanted_have_keys c.args.store.now c.in_ok-stock.stock v linked.keys linked.links linked.taken full linked.dry outcome wanted c.if-linked.false met))
    (subst (λ (k : List ℕ). NewKeysAreWanted c.args.store.now k wanted) (sym c.as_slice-2.ensures) (new_keys_are_wanted c.args.store.now c.in_ok-stock.stock v linked.keys linked.links linked.taken full linked.dry outcome wanted
    c.ask_all-seat.ensures.made))

pub ask_all-seat-requires-clause-made : goal.ask_all-seat-requires-clause-made
ask_all-seat-requires-clause-made g c κs within = none_put (IsPlaceOf c.args.store.now 1 (found_in c.args.work.now.axes c.args.work.now.found.now)) (worker_of c.in_ok-pass.seat) _ 16 c.in_ok-pass.ensures.worker
