-- Lowered code is that of its kernel.
use Rattle.std.proofs.Common.{◌≡◌, ℕ, ◌+◌, ◌<◌, ◌≤◌, Bool, true, false, not, ◌&&◌, List, [], ◌∷◌, ◌++◌, map, length, take, get_or, Option, Result, Ok, Err, IfOk, refl, sym, ap, ◌∙◌, subst}
use Rattle.std.specs.Prelude.{cond, Contains}
use Rattle.std.specs.List.{AllByRecursion, AllZip, filter}
use Rattle.std.proofs.lemmas.List.{take_more}
use Rattle.indexmap.proofs.SetLemmas.{AllZip-push}
use Rattle.sg_words.proofs.Uses.{contains_head, contains_rest}
use Rattle.sg_words.specs.declared.memory.Memory.{Memory}
use Rattle.sg_coord.specs.declared.coord.Coord.{Coord}
use Rattle.sg_layout.specs.declared.shape.Shape.{Shape}
use Rattle.sg_flat.specs.declared.effects.Domain.{Domain}
use Rattle.sg_flat.specs.declared.effects.Effects.{Effects}
use Rattle.sg_flat.specs.declared.effects.Turn.{Turn}
use Rattle.sg_flat.specs.declared.effects.Way.{Way}
use Rattle.sg_flat.specs.declared.effects.Way.TheVariants.{Own, Acc}
use Rattle.sg_flat.specs.declared.effects.Write.{Write}
use Rattle.sg_flat.specs.declared.state.FlatState.{FlatState}
use Rattle.sg_flat.specs.State.{IsFlat}
use Rattle.sg_flat.specs.Domain.{domain_points}
use Rattle.sg_types.specs.declared.typed.TypedDomain.{TypedDomain}
use Rattle.sg_types.specs.declared.typed.TypedDomain.TheVariants as domain
use Rattle.sg_types.specs.Values.{World, is_own, coord_of}
use Rattle.sg_types.specs.Iterations.{part_words, writes_at, domain_of, kernel_effects}
use Rattle.sg_admit.specs.declared.admitted.Admitted.{Admitted}
use Rattle.sg_admit.specs.Slices as admit
use Rattle.sg_admit.specs.Slices.{walked_by, is_walked}
use Rattle.sg_admit.specs.Laws.{DomainIsConstant, OwnWritesStand}
use Rattle.sg_ir.specs.declared.code.KernelCode.{KernelCode}
use Rattle.sg_ir.specs.Runs as ir
use Rattle.sg_ir.specs.Runs.{CodeWant, CodeWrite, iteration}
use Rattle.sg_ir.specs.WellTyped.{is_well_typed}
use Rattle.sg_ir.specs.Apt as apt
use Rattle.sg_ir.specs.Apt.{IsApt, walks}
use Rattle.sg_ir.specs.Named.{IsNamed}
use Rattle.sg_lower.specs.Lowered.{code_write, want_of, WritesAsKernel, WantsAsKernel, PointsAreWhole}
use Rattle.sg_exec.specs.Running.{coord_of_write, wants_left, write_at, located, seen_at, code_turn, code_effects}
use Rattle.sg_session.specs.Compiled.{IsSharedAndTrimmed, IsCodeOf, world_of}
use Rattle.sg_session.specs.steps.Kernels.{IsLowerable, IsLoweredOf, AreSimplified}

-- ---- which writes may activate

own_same : (way : Way) → ir.is_own way ≡ is_own way
own_same Own = refl
own_same (Acc op) = refl

walks_same : (world : World) (d : TypedDomain) (layout : ℕ) → walks (domain_of world d) layout ≡ is_walked (walked_by d) layout
walks_same world (domain.Walk walked) layout = refl
walks_same world (domain.Ranges ranges) layout = refl

-- a write of code may activate exactly when the kernel's may
activates_same : (shapes : List Shape) (world : World) (d : TypedDomain) (write : Write)
    → apt.may_activate (domain_of world d) (code_write shapes write) ≡ admit.may_activate (walked_by d) write.layout write.way
activates_same shapes world d write =
    ap (λ (b : Bool). not (b && walks (domain_of world d) write.layout)) (own_same write.way) ∙ ap (λ (b : Bool). not (is_own write.way && b)) (walks_same world d write.layout)

-- what may not activate is own
own_if_not : (walked : Option ℕ) (write : Write) → admit.may_activate walked write.layout write.way ≡ false → is_own write.way ≡ true
own_if_not walked write e = by_test (is_own write.way) refl
  where
    by_test : (b : Bool) → is_own write.way ≡ b → is_own write.way ≡ true
    by_test true own = own
    by_test false own = absurd (let out : not (false && is_walked walked write.layout) ≡ false = ap (λ (b : Bool). not (b && is_walked walked write.layout)) (sym own) ∙ e in cc)

-- ---- the writes where the slice wants them

module _ (shapes : List Shape) (world : World) (d : TypedDomain) (at : Coord) where
  abbrev may : Write → Bool
  may write = admit.may_activate (walked_by d) write.layout write.way

  abbrev wanted : List Write → List CodeWant
  wanted writes = map want_of (filter may writes)

  -- one write more, by whether it may activate
  one_more : (write : Write) (writes : List Write) (b : Bool) → may write ≡ b → (is_own write.way ≡ true → write.at ≡ at)
      → located (domain_of world d) at (wanted writes) (map (code_write shapes) writes) ≡ writes
      → write_at (code_write shapes write) (coord_of_write b (map want_of (cond b (write ∷ filter may writes) (filter may writes))) at)
      ∷ located (domain_of world d) at (wants_left b (map want_of (cond b (write ∷ filter may writes) (filter may writes)))) (map (code_write shapes) writes) ≡ write ∷ writes
  one_more write writes true is stands rest = ap (λ (ws : List Write). write ∷ ws) rest
  one_more write writes false is stands rest =
      ap (λ (x : Coord). write_at (code_write shapes write) x ∷ located (domain_of world d) at (wanted writes) (map (code_write shapes) writes)) (sym (stands (own_if_not (walked_by d) write is)))
      ∙ ap (λ (ws : List Write). write ∷ ws) rest

  located_whole : (writes : List Write) → AllByRecursion (λ write. is_own write.way ≡ true → write.at ≡ at) writes
      → located (domain_of world d) at (wanted writes) (map (code_write shapes) writes) ≡ writes
  located_whole [] all = refl
  located_whole (write ∷ writes) all =
      ap (λ (b : Bool). write_at (code_write shapes write) (coord_of_write b (wanted (write ∷ writes)) at) ∷ located (domain_of world d) at (wants_left b (wanted (write ∷ writes))) (map (code_write shapes) writes))
      (activates_same shapes world d write)
      ∙ one_more write writes (may write) refl all.0 (located_whole writes all.1)

-- ---- the whole

same_on : {X Y : Type 0} (f g : X → Y) (xs : List X) → ((x : X) → Contains xs x → f x ≡ g x) → map f xs ≡ map g xs
same_on f g [] same = refl
same_on f g (x ∷ xs) same =
    ap (λ y. y ∷ map f xs) (same x (contains_head x x xs refl)) ∙ ap (λ ys. g x ∷ ys) (same_on f g xs (λ y has. same y (contains_rest y x xs has)))

module _ (constant : DomainIsConstant) (own_stand : OwnWritesStand) (shapes : List Shape) (kernel : Admitted) (lowerable : IsLowerable shapes kernel) (code : KernelCode) (goes : code.domain ≡ kernel.domain)
    (writes : WritesAsKernel shapes kernel.kernel code.code.body) (wants : WantsAsKernel shapes kernel.kernel code.slice.body) where
  domain_is : (state : FlatState) → domain_of (world_of shapes state) kernel.kernel.domain ≡ code.domain
  domain_is state = constant (world_of shapes state) kernel.kernel kernel lowerable.admitted ∙ sym goes

  turn_writes : (state : FlatState) → IsFlat shapes state → (at : Coord) → length (part_words at) ≡ kernel.kernel.vars → coord_of (part_words at) ≡ at
      → (code_turn shapes state code at).writes ≡ writes_at (world_of shapes state) kernel.kernel at
  turn_writes state fine at parts whole =
      let world = world_of shapes state in
      let all = writes_at world kernel.kernel at in
      ap (λ (d : Domain). located d at (iteration (seen_at shapes state at) code.slice.body).wants (iteration (seen_at shapes state at) code.code.body).writes) (sym (domain_is state))
      ∙ ap (λ (ws : List CodeWant). located (domain_of world kernel.kernel.domain) at ws (iteration (seen_at shapes state at) code.code.body).writes) (wants state fine at parts whole)
      ∙ ap (λ (cs : List CodeWrite). located (domain_of world kernel.kernel.domain) at (map want_of (filter (λ write. admit.may_activate (walked_by kernel.kernel.domain) write.layout write.way) all)) cs) (writes state fine at parts whole)
      ∙ located_whole shapes world kernel.kernel.domain at all
      (own_stand world shapes kernel.kernel kernel at lowerable.admitted lowerable.ready.typed lowerable.ready.numbered parts whole)

  turns_same : PointsAreWhole shapes kernel → (state : FlatState) → IsFlat shapes state → code_effects shapes state code ≡ kernel_effects (world_of shapes state) kernel.kernel
  turns_same points state fine =
      let world = world_of shapes state in
      ap (λ (ts : List Turn). let it : Effects = record { turns = ts } in it)
      (ap (λ (d : Domain). map (code_turn shapes state code) (domain_points state d)) goes
      ∙ same_on (code_turn shapes state code) (λ at. record { at = at; writes = writes_at world kernel.kernel at }) (domain_points state kernel.domain)
      (λ at has. let is = points state fine at has in ap (λ (ws : List Write). let it : Turn = record { at = at; writes = ws } in it) (turn_writes state fine at is.0 is.1))
      ∙ ap (λ (d : Domain). map (λ at. let it : Turn = record { at = at; writes = writes_at world kernel.kernel at } in it) (domain_points state d)) (sym (constant world kernel.kernel kernel lowerable.admitted)))

-- what the clauses of lowering say
pub lowered_is : (constant : DomainIsConstant) (own_stand : OwnWritesStand) (shapes : List Shape) (kernel : Admitted) (result : Result KernelCode Memory) → IsLowerable shapes kernel
    → IfOk result (λ it. it.domain ≡ kernel.domain) → IfOk result (λ it. WritesAsKernel shapes kernel.kernel it.code.body) → IfOk result (λ it. WantsAsKernel shapes kernel.kernel it.slice.body)
    → IfOk result (λ it. (is_well_typed shapes it.code ≡ true) × (is_well_typed shapes it.slice ≡ true)) → IfOk result (λ it. IsApt shapes it)
    → IfOk result (λ it. PointsAreWhole shapes kernel) → IfOk result (IsLoweredOf shapes kernel)
lowered_is constant own_stand shapes kernel (Ok code) lowerable goes writes wants typed is_apt points =
    record {
      runnable = record { slice_typed = typed.1; code_typed = typed.0; apt = is_apt };
      domain = goes;
      effects = turns_same constant own_stand shapes kernel lowerable code goes writes wants points;
    }
lowered_is constant own_stand shapes kernel (Err why) lowerable goes writes wants typed is_apt points = tt

-- ---- simplified code

-- if code tells the same, its turns are the same
turn_same : (shapes : List Shape) (given made : KernelCode) → AreSimplified shapes given made → (state : FlatState) → IsFlat shapes state → (at : Coord) → Contains (domain_points state given.domain) at
    → code_turn shapes state made at ≡ code_turn shapes state given at
turn_same shapes given made simple state fine at has =
    let slice = simple.slice.same state fine at has in
    let code = simple.code.same state fine at has in
    ap (λ (ws : List Write). let it : Turn = record { at = at; writes = ws } in it)
    (ap (λ (d : Domain). located d at (iteration (seen_at shapes state at) made.slice.body).wants (iteration (seen_at shapes state at) made.code.body).writes) simple.domain
    ∙ ap (λ (ws : List CodeWant). located given.domain at ws (iteration (seen_at shapes state at) made.code.body).writes) slice.wants
    ∙ ap (λ (cs : List CodeWrite). located given.domain at (iteration (seen_at shapes state at) given.slice.body).wants cs) code.writes)

simplified_effects : (shapes : List Shape) (given made : KernelCode) → AreSimplified shapes given made → (state : FlatState) → IsFlat shapes state → code_effects shapes state made ≡ code_effects shapes state given
simplified_effects shapes given made simple state fine =
    ap (λ (ts : List Turn). let it : Effects = record { turns = ts } in it)
    (ap (λ (d : Domain). map (code_turn shapes state made) (domain_points state d)) simple.domain
    ∙ same_on (code_turn shapes state made) (code_turn shapes state given) (domain_points state given.domain) (turn_same shapes given made simple state fine))

-- code stays apt
stays_apt : (shapes : List Shape) (given made : KernelCode) → AreSimplified shapes given made → IsApt shapes given → IsApt shapes made
stays_apt shapes given made simple is_apt =
    let goes = sym simple.domain in
    record {
      domain = subst (λ (d : Domain). apt.IsDomain shapes d) goes is_apt.domain;
      slice_named = subst (λ (d : Domain). IsNamed shapes d made.slice.body) goes simple.slice.named;
      code_named = subst (λ (d : Domain). IsNamed shapes d made.code.body) goes simple.code.named;
      wants = subst (λ (d : Domain). apt.WantsItsWrites shapes d made.slice.body made.code.body) goes
          (λ state fine at has.
          let wants = (simple.slice.same state fine at has).wants in
          let writes = (simple.code.same state fine at has).writes in
          subst (λ (ws : List CodeWant). AllZip (apt.IsWantOf shapes) ws (filter (apt.may_activate given.domain) (iteration (seen_at shapes state at) made.code.body).writes)) (sym wants)
          (subst (λ (cs : List CodeWrite). AllZip (apt.IsWantOf shapes) (iteration (seen_at shapes state at) given.slice.body).wants (filter (apt.may_activate given.domain) cs)) (sym writes)
          (is_apt.wants state fine at has)));
      ways = subst (λ (d : Domain). apt.KeepsItsWays shapes d (apt.uses_in made.code.body)) goes ways;
      asks = λ layout field way has asked. is_apt.asks layout field way (only (apt.Writes layout field way) has) (simple.code.asks layout asked);
    }
  where
    only : (it : apt.Use) → Contains (apt.uses_in made.code.body) it → Contains (apt.uses_in given.code.body) it
    only = simple.code.only

    ways : apt.KeepsItsWays shapes given.domain (apt.uses_in made.code.body)
    ways = record {
      one_way = λ layout field way other one two. is_apt.ways.one_way layout field way other (only (apt.Writes layout field way) one) (only (apt.Writes layout field other) two);
      unread = λ layout field way write read. is_apt.ways.unread layout field way (only (apt.Writes layout field way) write) (only (apt.Reads layout field) read);
      no_own_read = λ layout field op write read. is_apt.ways.no_own_read layout field op (only (apt.Writes layout field (Acc op)) write) (only (apt.ReadsOwn layout field) read);
      own_axes = λ layout field write. is_apt.ways.own_axes layout field (only (apt.Writes layout field Own) write);
    }

pub simplified_is : (shapes : List Shape) (kernel : Admitted) (given made : KernelCode) → IsLoweredOf shapes kernel given → AreSimplified shapes given made → IsCodeOf shapes kernel made
simplified_is shapes kernel given made lowered simple =
    let goes = sym simple.domain in
    record {
      runnable = record { slice_typed = simple.slice.typed; code_typed = simple.code.typed; apt = stays_apt shapes given made simple lowered.runnable.apt };
      domain = simple.domain ∙ lowered.domain;
      effects = λ state fine. simplified_effects shapes given made simple state fine ∙ lowered.effects state fine;
      simple_slice = subst (λ (d : Domain). IsSharedAndTrimmed shapes d made.slice) goes (record { shared = simple.slice.shared; trimmed = simple.slice.trimmed });
      simple_code = subst (λ (d : Domain). IsSharedAndTrimmed shapes d made.code) goes (record { shared = simple.code.shared; trimmed = simple.code.trimmed });
    }

-- what simplifying the lowered code of a kernel answers
pub code_is : (shapes : List Shape) (kernel : Admitted) (given : KernelCode) (result : Result KernelCode Memory) → IsLoweredOf shapes kernel given → IfOk result (AreSimplified shapes given) → IfOk result (IsCodeOf shapes kernel)
code_is shapes kernel given (Ok made) lowered simple = simplified_is shapes kernel given made lowered simple
code_is shapes kernel given (Err why) lowered simple = tt

-- one code more, of the next kernel
pub coded_next : (shapes : List Shape) (kernels : List Admitted) (i : ℕ) (kernel : Admitted) (codes more : List KernelCode) (code : KernelCode) → i < length kernels → kernel ≡ get_or kernels i kernel → more ≡ codes ++ code ∷ []
    → AllZip (IsCodeOf shapes) (take i kernels) codes → IsCodeOf shapes kernel code → AllZip (IsCodeOf shapes) (take (i + 1) kernels) more
coded_next shapes kernels i kernel codes more code below is made all one =
    let front : take (i + 1) kernels ≡ take i kernels ++ kernel ∷ [] = take_more kernels i kernel below ∙ ap (λ (x : Admitted). take i kernels ++ x ∷ []) (sym is) in
    subst (λ (ks : List Admitted). AllZip (IsCodeOf shapes) ks more) (sym front)
    (subst (λ (cs : List KernelCode). AllZip (IsCodeOf shapes) (take i kernels ++ kernel ∷ []) cs) (sym made) (AllZip-push (IsCodeOf shapes) (take i kernels) codes kernel code all one))
