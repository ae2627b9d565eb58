-- What an instruction that adds writes or wants makes of iterations side by side.
use Rattle.std.proofs.Common.{◌≡◌, ℕ, ◌<◌, List, [], ◌∷◌, ◌++◌, map, Option, Some, None, All, true, false, refl, sym, ap, ◌∙◌, subst}
use Rattle.std.proofs.lemmas.List.{map-append}
use Rattle.std.proofs.lemmas.List.Elements.{All-append, All-cons, All-nil}
use Rattle.std.proofs.lemmas.Option.{same_Some}
use Rattle.sg_words.specs.declared.operators.AccOp.{AccOp}
use Rattle.sg_coord.specs.declared.coord.Coord.{Coord}
use Rattle.sg_flat.specs.declared.effects.Way.TheVariants.{Own, Acc}
use Rattle.sg_flat.specs.declared.effects.Write.{Write}
use Rattle.sg_flat.specs.declared.state.FlatState.{FlatState}
use Rattle.sg_store.specs.StoreWords.{StoreWords}
use Rattle.sg_ir.specs.declared.code.Inst.TheVariants as v
use Rattle.sg_ir.specs.Runs.{Seen, Moved, CodeWrite, CodeWant, Access, does, at_of, coord_of, named_by, add_code_write, add_want, add_access}
use Rattle.sg_ir.specs.Named.{AreNamed}
use Rattle.sg_ir.proofs.Uses.{does-OwnWrite, does-Acc, does-Want}
use Rattle.sg_exec.specs.declared.lanes.batch.Batch.{Batch}
use Rattle.sg_exec.specs.declared.lanes.cell_write.CellWrite.{CellWrite}
use Rattle.sg_exec.specs.declared.lanes.moment.Moment.{Moment}
use Rattle.sg_exec.specs.Standing.{shapes_of}
use Rattle.sg_exec.specs.steps.Machines.{seen_in, Sees, HoldsPlace, IsAtLoop, cell_there, cell_write, want_write}
use Rattle.sg_exec.specs.steps.Rows.{item_in}
use Rattle.sg_exec.specs.steps.Moments.{column, IsMoved, AllMove, KeepsRows, IsOver}
use Rattle.sg_exec.specs.steps.Accessing.{own_write_at, contribution, coord_in, AreMade, IsCellAt, IsContributed, IsWanted, IsWritten, KeepStores}
use Rattle.sg_exec.proofs.EarlierAccesses.{named_before}
use Rattle.sg_exec.proofs.PlacesMoved.{keeps_itself}
use Rattle.sg_exec.proofs.SideBySide.{there, all_by, kept_then}

pub no_lack : {A : Type 0} → true ≡ false → A
no_lack {A} lacks = absurd (cc)

-- nothing of a batch but its moments is another, and memory may be wanting
pub record OnlyMoments (old new : Batch) : Type 0 where
  pub kept : new.lacks ≡ false → old.lacks ≡ false
  pub regs : new.regs ≡ old.regs
  pub vars : new.vars ≡ old.vars
  pub places : new.places ≡ old.places

moments_over : (old new : Batch) → OnlyMoments old new → KeepStores old.moments.items new.moments.items → (stores : List StoreWords) → IsOver stores old → IsOver stores new
moments_over old new only keep stores over = record {
  places = ap (λ it. it.stores) only.places ∙ over.places;
  whole = keep.long ∙ over.whole;
  moments = λ k moment is.
      let before = there new.moments.items old.moments.items k moment is (sym keep.long) in
      keep.same k before.0 moment before.1 is ∙ over.moments k before.0 before.1;
}

-- where a moment has become another
cells_moved : (stores : List StoreWords) (at : Coord) (old new : Batch) (k : ℕ) (before after : Moment) (now : Moved) (writes : List CodeWrite) (wants : List CodeWant) (accesses : List Access) → OnlyMoments old new
    → after.cells.stores ≡ before.cells.stores → after.cells.at ≡ before.cells.at → after.cells.writes ≡ map (cell_write stores) writes → All (IsAtLoop at) writes → after.wants.items ≡ map want_write wants
    → IsMoved stores at (column old k before) now → IsMoved stores at (column new k after) (record now { writes = writes; wants = wants; accesses = accesses })
cells_moved stores at old new k before after now writes wants accesses only same_stores same_at writes_are own_at wants_are moved = record {
  stores_are = ap (λ it. it.stores) only.places ∙ moved.stores_are;
  regs_are = λ number. ap (λ it. item_in it.items 0 k number) only.regs ∙ moved.regs_are number;
  vars_are = λ number. ap (λ it. item_in it.items 0 k number) only.vars ∙ moved.vars_are number;
  places_are = λ p. subst (λ held. HoldsPlace stores held (now.places p)) (sym (ap (λ it. item_in it.list None k p) only.places)) (moved.places_are p);
  cells_over = same_stores ∙ moved.cells_over;
  at_is = same_at ∙ moved.at_is;
  writes_are = writes_are;
  own_at = own_at;
  wants_are = wants_are;
}

-- moments have become others, where memory wasn't wanting
pub moments_done : (old mid new : Batch) (on : ℕ → Type 0) (Becomes : ℕ → Moment → Moment → Type 0) (act : Seen → Moved → Moved) → KeepsRows old mid → OnlyMoments mid new → KeepStores mid.moments.items new.moments.items
    → (new.lacks ≡ false → AreMade Becomes on mid.moments.items new.moments.items)
    → ((k : ℕ) (before after : Moment) (stores : List StoreWords) (state : FlatState) (at : Coord) (now : Moved) → k < 32 → Becomes k before after → Sees stores state
    → (AreNamed (shapes_of stores) now.accesses → IsMoved stores at (column mid k before) now) → AreNamed (shapes_of stores) (act (seen_in stores state at) now).accesses → IsMoved stores at (column new k after) (act (seen_in stores state at) now))
    → AllMove act on old new
moments_done old mid new on Becomes act keeps only keep made same =
    kept_then act on old mid new keeps (record {
      over = moments_over mid new only keep;
      long = keep.long;
      among = λ k before after at small inside. record {
        kept = only.kept;
        follows = λ stores state here sees now follows lacks named.
            same k before after stores state here now small ((made lacks).among k before after at.before_is at.after_is inside) sees (λ earlier. follows (only.kept lacks) earlier) named;
      };
      others = λ k before after at small out. record {
        kept = only.kept;
        follows = λ stores state here sees now follows lacks named.
            let moved = follows (only.kept lacks) named in
            let is : before ≡ after = same_Some before after (sym at.before_is ∙ sym ((made lacks).others k out) ∙ at.after_is) in
            subst (λ (m : Moment). IsMoved stores here (column new k m) now) is
            (cells_moved stores here mid new k before before now now.writes now.wants now.accesses only refl refl moved.writes_are moved.own_at moved.wants_are moved);
      };
    })

-- ---- writes

writes_more : (stores : List StoreWords) (old new : List CellWrite) (made : List CodeWrite) (write : CellWrite) (more : CodeWrite) → new ≡ old ++ write ∷ [] → write ≡ cell_write stores more
    → old ≡ map (cell_write stores) made → new ≡ map (cell_write stores) (made ++ more ∷ [])
writes_more stores old new made write more grew is was =
    grew ∙ ap (λ (ws : List CellWrite). ws ++ write ∷ []) was ∙ ap (λ (w : CellWrite). map (cell_write stores) made ++ w ∷ []) is ∙ sym (map-append (cell_write stores) made (more ∷ []))

own_more : (at : Coord) (made : List CodeWrite) (more : CodeWrite) → IsAtLoop at more → All (IsAtLoop at) made → All (IsAtLoop at) (made ++ more ∷ [])
own_more at made more loop old = All-append (IsAtLoop at) made (more ∷ []) old (All-cons (IsAtLoop at) more [] loop (All-nil (IsAtLoop at)))

-- a write more
write_done : (stores : List StoreWords) (at : Coord) (old new : Batch) (k : ℕ) (before after : Moment) (write : CellWrite) (made : CodeWrite) (now : Moved) (accesses : List Access) → OnlyMoments old new → IsWritten write before after
    → write ≡ cell_write stores made → IsAtLoop at made → IsMoved stores at (column old k before) now → IsMoved stores at (column new k after) (record now { writes = now.writes ++ made ∷ []; accesses = accesses })
write_done stores at old new k before after write made now accesses only written is loop moved =
    cells_moved stores at old new k before after now (now.writes ++ made ∷ []) now.wants accesses only (ap (λ it. it.stores) written.cells) (ap (λ it. it.at) written.cells)
    (writes_more stores before.cells.writes after.cells.writes now.writes write made (ap (λ it. it.writes) written.cells) is moved.writes_are)
    (own_more at now.writes made loop moved.own_at) (ap (λ it. it.items) written.wants ∙ moved.wants_are) moved

-- own writes
pub own_writes_done : (old mid new : Batch) (regs : List ℕ) (on : ℕ → Type 0) (layout field from stmt : ℕ) → regs ≡ mid.regs.items → KeepsRows old mid → OnlyMoments mid new → KeepStores mid.moments.items new.moments.items
    → (new.lacks ≡ false → AreMade (λ k before. IsWritten (own_write_at layout field (item_in regs 0 k from) before) before) on mid.moments.items new.moments.items)
    → AllMove (λ seen. does seen (v.OwnWrite layout field from stmt)) on old new
own_writes_done old mid new regs on layout field from stmt same_regs keeps only keep made =
    let code : Seen → Moved → CodeWrite = λ seen now. record { layout = layout; field = field; stmt = stmt; at = Some seen.at; way = Own; value = now.regs from } in
    all_by (λ seen now. add_code_write (code seen now) now) (λ seen. does seen (v.OwnWrite layout field from stmt)) (λ seen now. sym (does-OwnWrite seen layout field from stmt now)) on old new
    (moments_done old mid new on (λ k before. IsWritten (own_write_at layout field (item_in regs 0 k from) before) before) (λ seen now. add_code_write (code seen now) now) keeps only keep made
    (λ k before after stores state at now small written sees earlier named.
    let moved = earlier named in
    let write : Option ℕ → ℕ → CellWrite = λ cell value. record { layout = layout; place = field; cell = cell; way = Own; value = value } in
    write_done stores at mid new k before after (own_write_at layout field (item_in regs 0 k from) before) (code (seen_in stores state at) now) now now.accesses only written
    (ap (λ (ss : List StoreWords). write (cell_there ss layout (Some before.cells.at)) (item_in regs 0 k from)) moved.cells_over
    ∙ ap (λ (x : Coord). write (cell_there stores layout (Some x)) (item_in regs 0 k from)) moved.at_is
    ∙ ap (write (cell_there stores layout (Some at))) (ap (λ (items : List ℕ). item_in items 0 k from) same_regs ∙ moved.regs_are from))
    (λ own. refl) moved))

-- contributions
pub contributions_done : (old mid new : Batch) (regs : List ℕ) (on : ℕ → Type 0) (op : AccOp) (layout field place from : ℕ) (index : List ℕ) (stmt : ℕ) → regs ≡ mid.regs.items → KeepsRows old mid → OnlyMoments mid new → KeepStores mid.moments.items new.moments.items
    → (new.lacks ≡ false → AreMade (λ k. IsContributed mid.places.stores (item_in mid.places.list None k place) op layout field (item_in regs 0 k from)) on mid.moments.items new.moments.items)
    → AllMove (λ seen. does seen (v.Acc op layout field place from index stmt)) on old new
contributions_done old mid new regs on op layout field place from index stmt same_regs keeps only keep made =
    let code : Seen → Moved → CodeWrite = λ seen now. record { layout = layout; field = field; stmt = stmt; at = at_of seen.shapes (now.places place); way = Acc op; value = now.regs from } in
    let access : Moved → Access = λ now. record { asks = false; layout = layout; place = now.places place; at = named_by index now } in
    let act : Seen → Moved → Moved = λ seen now. add_code_write (code seen now) (add_access (access now) now) in
    let Becomes : ℕ → Moment → Moment → Type 0 = λ k. IsContributed mid.places.stores (item_in mid.places.list None k place) op layout field (item_in regs 0 k from) in
    all_by act (λ seen. does seen (v.Acc op layout field place from index stmt)) (λ seen now. sym (does-Acc seen op layout field place from index stmt now)) on old new
    (moments_done old mid new on Becomes act keeps only keep made
    (λ k before after stores state at now small added sees earlier named.
    let both = named_before stores now.accesses (access now) named in
    let moved = earlier both.0 in
    let cell : added.cell ≡ cell_there stores layout (at_of (shapes_of stores) (now.places place)) =
    (subst (λ (ss : List StoreWords). IsCellAt ss layout (item_in mid.places.list None k place) added.cell) moved.stores_are added.is) (now.places place) (moved.places_are place) (named_by index now) both.1 in
    write_done stores at mid new k before after (contribution op layout field (item_in regs 0 k from) added.cell) (code (seen_in stores state at) now) now (now.accesses ++ access now ∷ []) only added.written
    (ap (contribution op layout field (item_in regs 0 k from)) cell
    ∙ ap (λ (value : ℕ). contribution op layout field value (cell_there stores layout (at_of (shapes_of stores) (now.places place)))) (ap (λ (items : List ℕ). item_in items 0 k from) same_regs ∙ moved.regs_are from))
    (λ own. absurd (cc)) moved))

-- ---- wants

wants_more : (wants wants' : List Write) (made : List CodeWant) (write : Write) (more : CodeWant) → wants' ≡ wants ++ write ∷ [] → write ≡ want_write more → wants ≡ map want_write made → wants' ≡ map want_write (made ++ more ∷ [])
wants_more wants wants' made write more grew is was =
    grew ∙ ap (λ (w : Write). wants ++ w ∷ []) is ∙ ap (λ (ws : List Write). ws ++ want_write more ∷ []) was ∙ sym (map-append want_write made (more ∷ []))

named_same : (f g : ℕ → ℕ) (index : List ℕ) → ((r : ℕ) → f r ≡ g r) → map f index ≡ map g index
named_same f g [] are = refl
named_same f g (r ∷ index) are = ap (λ (w : ℕ). w ∷ map f index) (are r) ∙ ap (λ (ws : List ℕ). g r ∷ ws) (named_same f g index are)

-- wanted coordinates
pub wants_done : (old new : Batch) (regs : List ℕ) (on : ℕ → Type 0) (layout : ℕ) (index : List ℕ) (stmt : ℕ) → regs ≡ old.regs.items → OnlyMoments old new → KeepStores old.moments.items new.moments.items
    → (new.lacks ≡ false → AreMade (λ k. IsWanted (record { layout = layout; stmt = stmt; at = coord_in regs k index })) on old.moments.items new.moments.items)
    → AllMove (λ seen. does seen (v.Want layout index stmt)) on old new
wants_done old new regs on layout index stmt same_regs only keep made =
    let want : Coord → CodeWant = λ at. record { layout = layout; stmt = stmt; at = at } in
    let act : Seen → Moved → Moved = λ seen now. add_want (want (named_by index now)) now in
    all_by act (λ seen. does seen (v.Want layout index stmt)) (λ seen now. sym (does-Want seen layout index stmt now)) on old new
    (moments_done old old new on (λ k. IsWanted (want (coord_in regs k index))) act keeps_itself only keep made
    (λ k before after stores state at now small wanted sees earlier named.
    let moved = earlier named in
    let is : coord_in regs k index ≡ named_by index now =
    ap coord_of (named_same (item_in regs 0 k) now.regs index (λ (r : ℕ). ap (λ (items : List ℕ). item_in items 0 k r) same_regs ∙ moved.regs_are r)) in
    cells_moved stores at old new k before after now now.writes (now.wants ++ want (named_by index now) ∷ []) now.accesses only (ap (λ it. it.stores) wanted.cells) (ap (λ it. it.at) wanted.cells)
    (ap (λ it. it.writes) wanted.cells ∙ moved.writes_are) moved.own_at
    (wants_more before.wants.items after.wants.items now.wants (want_write (want (coord_in regs k index))) (want (named_by index now)) wanted.wants (ap (λ (x : Coord). want_write (want x)) is) moved.wants_are) moved))
