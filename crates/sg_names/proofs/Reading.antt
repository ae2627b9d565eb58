-- Going through the items of a program: what holds before each.
use Rattle.std.specs.Prelude.{◌≡◌, refl, ℕ, ◌+◌, ◌^◌, ◌≤◌, ◌<◌, suc, Bool, true, false, List, ◌∷◌, length, drop, slice_index_or, if◌then◌else◌, nat_lt, Option, Some, None, option_map, Result, Ok, Err, IsErrAnd, min, ◌-◌}
use Rattle.std.proofs.Common.{sym, ap, ◌∙◌, subst, arith, add-one}
use Rattle.std.proofs.lemmas.List.{drop_more, length_push}
use Rattle.std.proofs.lemmas.Bool.Decides.{nat_tests}
use Rattle.std.proofs.Math.Nat.{min-eq_left}
use Rattle.sg_words.specs.declared.memory.Stop.{Stop}
use Rattle.sg_words.specs.declared.memory.Stop.TheVariants as stop
use Rattle.sg_words.specs.Answers.{Answers}
use Rattle.sg_ast.specs.declared.program.Item.{Item}
use Rattle.sg_ast.specs.declared.program.Item.TheVariants as item
use Rattle.sg_names.specs.declared.fault.Which.{Which}
use Rattle.sg_names.specs.declared.fault.Which.TheVariants.{Layouts, Fields, Kernels, Commands}
use Rattle.sg_names.specs.declared.fault.NameFault.{NameFault}
use Rattle.sg_names.specs.declared.fault.NameFault.TheVariants.{Unknown, Twice, TooMany}
use Rattle.sg_names.specs.Tables.{Tables}
use Rattle.sg_names.specs.Declares.{declare, commands_in, constant_of}
use Rattle.sg_ast.specs.Limits.{most_tokens}
use Rattle.sg_names.specs.Limits.{most_layouts, most_program_fields, most_kernels, most_commands}
use Rattle.sg_names.specs.steps.Room.{AreFew}
use Rattle.sg_names.specs.Names.{uses_unknown, declares_twice, too_many, fault_in, tables_from}
use Rattle.sg_words.specs.Results.{fault_or}

-- a test that finds nothing, and what comes after it
unless : {X : Type 0} (b : Bool) (x : X) (o : Option X) → (if b then Some x else o) ≡ None → (b ≡ false) × (o ≡ None)
unless true x o h = absurd (cc)
unless false x o h = (refl, h)

no_kind : (o : Option Which) → option_map TooMany o ≡ None → o ≡ None
no_kind None h = refl
no_kind (Some which) h = absurd (cc)

-- numbers within the limits
pub record AreWithin (tables : Tables) (commands : ℕ) : Type 0 where
  pub layouts : length tables.layouts ≤ most_layouts
  pub fields : length tables.fields ≤ most_program_fields
  pub kernels : length tables.kernels ≤ most_kernels
  pub commands_within : commands ≤ most_commands

at_most : (limit n : ℕ) → nat_lt limit n ≡ false → n ≤ limit
at_most limit n h = grind (arith, nat_tests)

within : (tables : Tables) (commands : ℕ) → too_many tables commands ≡ None → AreWithin tables commands
within tables commands h =
    let one = unless (nat_lt most_layouts (length tables.layouts)) Layouts _ h in
    let two = unless (nat_lt most_program_fields (length tables.fields)) Fields _ one.1 in
    let three = unless (nat_lt most_kernels (length tables.kernels)) Kernels _ two.1 in
    let four = unless (nat_lt most_commands commands) Commands None three.1 in
    record {
      layouts = at_most most_layouts (length tables.layouts) one.0;
      fields = at_most most_program_fields (length tables.fields) two.0;
      kernels = at_most most_kernels (length tables.kernels) three.0;
      commands_within = at_most most_commands commands four.0;
    }

-- an item without a fault
pub record IsSound (before : Tables) (commands : ℕ) (given : Item) : Type 0 where
  pub known : uses_unknown before given ≡ false
  pub once : declares_twice before given ≡ false
  pub few : too_many (declare before given) (commands + commands_in given) ≡ None
  pub within_limits : AreWithin (declare before given) (commands + commands_in given)

pub sound : (before : Tables) (commands number : ℕ) (given : Item) → fault_in before commands number given ≡ None → IsSound before commands given
sound before commands number given h =
    let one = unless (uses_unknown before given) (Unknown number) _ h in
    let two = unless (declares_twice before given) (Twice number) _ one.1 in
    let few = no_kind (too_many (declare before given) (commands + commands_in given)) two.1 in
    record { known = one.0; once = two.0; few = few; within_limits = within (declare before given) (commands + commands_in given) few }

constants_more : (before : Tables) (given : Item) → length (declare before given).constants ≤ length before.constants + 1
constants_more before (item.Const decl) = omega (arith, length_push before.constants (record { name = decl.name; constant = constant_of decl }))
constants_more before (item.Layout decl) = omega arith
constants_more before (item.Kernel decl) = omega arith
constants_more before (item.Command command) = omega arith

-- before an item: the tables of what is left, after those of the items so far, are those of the program
pub record IsReading (whole : Result Tables NameFault) (items : List Item) (tables : Tables) (commands place : ℕ) : Type 0 where
  pub left : tables_from tables commands (place + 1) (drop place items) ≡ whole
  pub constants : length tables.constants ≤ place
  pub within_limits : AreWithin tables commands

module _ (whole : Result Tables NameFault) (items : List Item) (tables : Tables) (commands place : ℕ) (given : Item)
    (reading : IsReading whole items tables commands place) (here : place < length items) (at : given ≡ slice_index_or items place given) where
  next : fault_or (fault_in tables commands (place + 1) given) (tables_from (declare tables given) (commands + commands_in given) (suc (place + 1)) (drop (place + 1) items)) ≡ whole
  next =
      sym (ap (tables_from tables commands (place + 1)) (drop_more items place given here ∙ ap (λ x. x ∷ drop (place + 1) items) (sym at))) ∙ reading.left

  pub reading-fault : (fault : NameFault) → fault_in tables commands (place + 1) given ≡ Some fault → whole ≡ Err fault
  reading-fault fault h =
      sym next ∙ ap (λ o. fault_or o (tables_from (declare tables given) (commands + commands_in given) (suc (place + 1)) (drop (place + 1) items))) h

  pub reading-more : fault_in tables commands (place + 1) given ≡ None → IsReading whole items (declare tables given) (commands + commands_in given) (place + 1)
  reading-more h =
      let safe = sound tables commands (place + 1) given h in
      record {
        left = ap (λ n. tables_from (declare tables given) (commands + commands_in given) n (drop (place + 1) items)) (add-one (place + 1))
            ∙ (sym (ap (λ o. fault_or o (tables_from (declare tables given) (commands + commands_in given) (suc (place + 1)) (drop (place + 1) items))) h) ∙ next);
        constants = omega (arith, constants_more tables given, reading.constants);
        within_limits = safe.within_limits;
      }

  pub reading-few : length items ≤ most_tokens → fault_in tables commands (place + 1) given ≡ None → AreFew (declare tables given)
  reading-few most h =
      let safe = sound tables commands (place + 1) given h in
      record {
        constants = omega (arith, constants_more tables given, reading.constants);
        layouts = omega (arith, safe.within_limits.layouts);
        fields = omega (arith, safe.within_limits.fields);
        kernels = omega (arith, safe.within_limits.kernels);
      }

  pub reading-count : fault_in tables commands (place + 1) given ≡ None → (count : ℕ) → count ≡ min (commands_in given) (2 ^ 32 - 1) → count ≡ commands_in given
  reading-count h count is =
      let safe = sound tables commands (place + 1) given h in
      let few = safe.within_limits.commands_within in
      let small : commands_in given ≤ 2 ^ 32 - 1 = omega (arith, few) in
      is ∙ min-eq_left small

-- running out of memory is no answer
pub want_of_memory : {A E : Type 0} (result : Result A (Stop E)) (meaning : Result A E) → IsErrAnd result (λ error. error ≡ stop.Memory) → Answers result meaning
want_of_memory (Ok value) meaning h = absurd h
want_of_memory (Err error) meaning h = subst (λ given. Answers (Err given) meaning) (sym h) tt
