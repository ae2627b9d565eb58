-- All writes of an admitted kernel to one field are made in one way.
use Rattle.std.proofs.Common.{◌≡◌, ℕ, Bool, true, false, ◌==◌, if◌then◌else◌, ℤ, List, [], ◌∷◌, ◌++◌, map, fold, Option, Some, None, refl, sym, ap, subst, ◌∙◌}
use Rattle.std.specs.Prelude.{find, option_map}
use Rattle.std.specs.List.{AllByRecursion}
use Rattle.std.proofs.lemmas.Bool.{and_from, eq-eqb}
use Rattle.sg_words.specs.Words.{word_of}
use Rattle.sg_coord.specs.declared.coord.Coord.{Coord}
use Rattle.sg_flat.specs.declared.effects.Way.{Way}
use Rattle.sg_flat.specs.declared.effects.Write.{Write}
use Rattle.sg_types.specs.declared.typed.TypedStmt.{TypedStmt}
use Rattle.sg_types.specs.Values.{World, Moment, expr_word}
use Rattle.sg_types.specs.Iterations.{StmtAction, set_var, run_all, range_numbers, action_of, first_moment}
use Rattle.sg_types.proofs.Uses.{action-Let, action-Assign, action-Write, action-If, action-For, same_way_is, by_stmts}
use Rattle.sg_admit.specs.declared.ways.FieldWay.{FieldWay}
use Rattle.sg_admit.specs.Lines.{Deed, Sets, Writes, Tests, Turns, Opens, Around, Line, nothing_round, within_if, within_loop, stmt_lines, block_lines, kernel_lines}
use Rattle.sg_admit.specs.Rules.{Facts, facts_of, deed_ways, ways_in, is_of_field, first_way, is_first, keeps_one_way}
use Rattle.sg_admit.specs.Laws.{KeepsAll, FieldsAreWrittenInOneWay}
use Rattle.sg_admit.proofs.StmtWords.{lines-Write, lines-If, lines-For}
use Rattle.sg_admit.proofs.Follow.{all_front, all_back}
use Rattle.sg_admit.proofs.FirstFaults.{admitted_is}
use Rattle.sg_admit.proofs.Wants.{all_mapped, all_both, rules_kept}

-- ---- a field that a line writes has a first way

abbrev IsThere : Option Way → Type 0
IsThere None = ⊥
IsThere (Some way) = Unit {0}

abbrev HasWay : List FieldWay → Deed → Type 0
HasWay ways (Sets var value) = Unit {0}
HasWay ways (Writes layout place index way value) = IsThere (first_way ways layout place)
HasWay ways (Tests condition) = Unit {0}
HasWay ways (Turns var range) = Unit {0}
HasWay ways (Opens ranges) = Unit {0}

there_later : (more ways : List FieldWay) (layout place : ℕ) → IsThere (first_way ways layout place) → IsThere (first_way (more ++ ways) layout place)
there_later [] ways layout place h = h
there_later (it ∷ more) ways layout place h = at (is_of_field layout place it) (there_later more ways layout place h)
  where
    at : (hit : Bool) → IsThere (first_way (more ++ ways) layout place) → IsThere (option_map (λ (it : FieldWay). it.way) (if hit then Some it else find (is_of_field layout place) (more ++ ways)))
    at true later = tt
    at false later = later

way_later : (more ways : List FieldWay) (deed : Deed) → HasWay ways deed → HasWay (more ++ ways) deed
way_later more ways (Sets var value) h = tt
way_later more ways (Writes layout place index way value) h = there_later more ways layout place h
way_later more ways (Tests condition) h = tt
way_later more ways (Turns var range) h = tt
way_later more ways (Opens ranges) h = tt

way_here : (ways : List FieldWay) (deed : Deed) → HasWay (deed_ways deed ++ ways) deed
way_here ways (Sets var value) = tt
way_here ways (Writes layout place index way value) =
    subst (λ (hit : Bool). IsThere (option_map (λ (it : FieldWay). it.way) (if hit then Some (record { layout = layout; place = place; way = way }) else find (is_of_field layout place) ways)))
    (sym (and_from (layout == layout) (place == place) (eq-eqb layout layout refl) (eq-eqb place place refl))) tt
way_here ways (Tests condition) = tt
way_here ways (Turns var range) = tt
way_here ways (Opens ranges) = tt

ways_there : (lines : List Line) → AllByRecursion (λ line. HasWay (ways_in lines) line.deed) lines
ways_there [] = tt
ways_there (line ∷ lines) = (
  way_here (ways_in lines) line.deed,
  all_mapped (λ it. HasWay (ways_in lines) it.deed) (λ it. HasWay (deed_ways line.deed ++ ways_in lines) it.deed)
      (λ it h. way_later (deed_ways line.deed) (ways_in lines) it.deed h) lines (ways_there lines),
)

-- ---- statements

module _ (world : World) (first : ℕ → ℕ → Option Way) where
  -- a line writes its field in the first way
  abbrev pub IsFirstWay : Deed → Type 0
  IsFirstWay (Sets var value) = Unit {0}
  IsFirstWay (Writes layout place index way value) = first layout place ≡ Some way
  IsFirstWay (Tests condition) = Unit {0}
  IsFirstWay (Turns var range) = Unit {0}
  IsFirstWay (Opens ranges) = Unit {0}

  abbrev InFirstWays : List Write → Type 0
  InFirstWays writes = AllByRecursion (λ write. first write.layout write.place ≡ Some write.way) writes

  abbrev Keeps : StmtAction → Type 0
  Keeps action = (now : Moment) → InFirstWays now.writes → InFirstWays (action now).writes

  abbrev AreFirst : List Line → Type 0
  AreFirst lines = AllByRecursion (λ line. IsFirstWay line.deed) lines

  one_more : (writes : List Write) (write : Write) → InFirstWays writes → first write.layout write.place ≡ Some write.way → InFirstWays (writes ++ write ∷ [])
  one_more [] write all h = (h, tt)
  one_more (it ∷ writes) write all h = (all.0, one_more writes write all.1 h)

  abbrev KeepsStmt : TypedStmt → Type 0
  KeepsStmt stmt = (around : Around) → AreFirst (stmt_lines stmt around) → Keeps (action_of world stmt)

  block_keeps : (block : List TypedStmt) → AllByRecursion KeepsStmt block → (around : Around) → AreFirst (block_lines block around) → Keeps (run_all (map (action_of world) block))
  block_keeps [] all around lines now good = good
  block_keeps (stmt ∷ block) all around lines now good =
      block_keeps block all.1 around (all_back (λ line. IsFirstWay line.deed) (stmt_lines stmt around) (block_lines block around) lines) (action_of world stmt now)
      (all.0 around (all_front (λ line. IsFirstWay line.deed) (stmt_lines stmt around) (block_lines block around) lines) now good)

  turns_keep : (var : ℕ) (body : List TypedStmt) → Keeps (run_all (map (action_of world) body)) → (turns : List ℤ)
      → Keeps (λ now. fold (λ reached turn. run_all (map (action_of world) body) (set_var var (word_of turn) reached)) now turns)
  turns_keep var body b [] now good = good
  turns_keep var body b (turn ∷ turns) now good =
      turns_keep var body b turns (run_all (map (action_of world) body) (set_var var (word_of turn) now)) (b (set_var var (word_of turn) now) good)

  either : (block otherwise : List TypedStmt) → Keeps (run_all (map (action_of world) block)) → Keeps (run_all (map (action_of world) otherwise)) → (is_zero : Bool)
      → Keeps (run_all (if is_zero then map (action_of world) otherwise else map (action_of world) block))
  either block otherwise b o true = o
  either block otherwise b o false = b

  stmt_keeps : (stmt : TypedStmt) → KeepsStmt stmt
  stmt_keeps = by_stmts KeepsStmt
      (λ number var value around lines now good. rw (action-Let world number var value now) good)
      (λ number var value around lines now good. rw (action-Assign world number var value now) good)
      (λ number layout place index way value around lines now good.
      let line = (subst AreFirst (lines-Write number layout place index way value around) lines).0 in
      rw (action-Write world number layout place index way value now) (one_more now.writes _ good line))
      (λ number condition block otherwise has_else b o around lines now good.
      let inside = (subst AreFirst (lines-If number condition block otherwise has_else around) lines).1 in
      let l = block_lines block (within_if condition around) in
      let m = block_lines otherwise (within_if condition around) in
      rw (action-If world number condition block otherwise has_else now)
      (either block otherwise (block_keeps block b (within_if condition around) (all_front (λ line. IsFirstWay line.deed) l m inside))
      (block_keeps otherwise o (within_if condition around) (all_back (λ line. IsFirstWay line.deed) l m inside)) (expr_word world now condition == 0) now good))
      (λ number var range body b around lines now good.
      let inside = (subst AreFirst (lines-For number var range body around) lines).1 in
      rw (action-For world number var range body now) (turns_keep var body (block_keeps body b (within_loop range around) inside) (range_numbers world now range) now good))

  all_keep : (block : List TypedStmt) → AllByRecursion KeepsStmt block
  all_keep [] = tt
  all_keep (stmt ∷ block) = (stmt_keeps stmt, all_keep block)

  pub body_in_first_ways : (body : List TypedStmt) → AreFirst (block_lines body nothing_round) → (at : Coord) → InFirstWays (run_all (map (action_of world) body) (first_moment at)).writes
  body_in_first_ways body lines at = block_keeps body (all_keep body) nothing_round lines (first_moment at) tt

-- a line that keeps rule 1, and whose field has a first way, writes it in that way
first_kept : (world : World) (facts : Facts) (ways : List FieldWay) → facts.first ≡ first_way ways → (deed : Deed) → keeps_one_way facts deed ≡ true → HasWay ways deed → IsFirstWay world (first_way ways) deed
first_kept world facts ways e (Sets var value) keeps there = tt
first_kept world facts ways e (Writes layout place index way value) keeps there =
    at (first_way ways layout place) there (ap (λ (first : ℕ → ℕ → Option Way). is_first (first layout place) way) (sym e) ∙ keeps)
  where
    at : (found : Option Way) → IsThere found → is_first found way ≡ true → found ≡ Some way
    at None there h = absurd there
    at (Some first) there h = ap Some (same_way_is first way h)
first_kept world facts ways e (Tests condition) keeps there = tt
first_kept world facts ways e (Turns var range) keeps there = tt
first_kept world facts ways e (Opens ranges) keeps there = tt

pub fields_are_written_in_one_way : FieldsAreWrittenInOneWay
fields_are_written_in_one_way world kernel kept at h =
    let is = admitted_is kernel kept h in
    let lines = kernel_lines kernel in
    let ways = ways_in lines in
    let all = all_both (KeepsAll (facts_of kernel)) (λ line. HasWay ways line.deed) (λ line. IsFirstWay world (first_way ways) line.deed)
    (λ line k there. first_kept world (facts_of kernel) ways refl line.deed (rules_kept (facts_of kernel) line k).one_way there) lines is.keep (ways_there lines) in
    body_in_first_ways world (first_way ways) kernel.body all.1 at
