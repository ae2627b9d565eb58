-- The laws of an admitted kernel: what its slice wants, and its domain.
use Rattle.std.proofs.Common.{◌≡◌, ℕ, Bool, true, false, not, ◌&&◌, ◌||◌, ◌==◌, List, [], ◌∷◌, ◌++◌, refl}
use Rattle.std.specs.List.{list_all, AllByRecursion}
use Rattle.std.proofs.lemmas.Bool.{and_parts, and_from, eq-eqb, or_left, or_right, both_ways}
use Rattle.sg_types.specs.declared.typed.TypedDomain.{TypedDomain}
use Rattle.sg_types.specs.declared.typed.TypedDomain.TheVariants as domain
use Rattle.sg_types.specs.declared.typed.TypedKernel.{TypedKernel}
use Rattle.sg_types.specs.Iterations.{first_moment, domain_of}
use Rattle.sg_admit.specs.Lines.{Deed, Sets, Writes, Tests, Turns, Opens, Around, Line, line_of, nothing_round, domain_ranges, kernel_lines}
use Rattle.sg_admit.specs.Clean.{Unclean, is_clean, deed_writes, writes_field, Giving, givings_of, givings, is_clean_giving, unclean_in}
use Rattle.sg_admit.specs.Slices.{walked_by, may_activate}
use Rattle.sg_admit.specs.Bounds.{is_constant, is_constant_range, nowhere}
use Rattle.sg_admit.specs.Rules.{Facts, facts_of, keeps_one_way, is_own_in_place, are_good_reads, is_own_read, is_unaccumulated, is_foreseen, is_bounded, asks_unwritten}
use Rattle.sg_admit.specs.Laws.{IsClosed, KeepsAll, SliceWantsWhatIsWritten, DomainIsConstant}
use Rattle.sg_admit.proofs.Dirty.{dirty_is_closed}
use Rattle.sg_admit.proofs.FirstFaults.{admitted_is}
use Rattle.sg_admit.proofs.ConstantWords.{constant_is_clean, box_same}
use Rattle.sg_admit.proofs.Follow.{all_front, SoundLine, IsSound, body_follows}

pub all_mapped : {X : Type 0} (P Q : X → Type 0) → ((x : X) → P x → Q x) → (xs : List X) → AllByRecursion P xs → AllByRecursion Q xs
all_mapped P Q h [] all = tt
all_mapped P Q h (x ∷ xs) all = (h x all.0, all_mapped P Q h xs all.1)

pub all_both : {X : Type 0} (P Q R : X → Type 0) → ((x : X) → P x → Q x → R x) → (xs : List X) → AllByRecursion P xs → AllByRecursion Q xs → AllByRecursion R xs
all_both P Q R h [] p q = tt
all_both P Q R h (x ∷ xs) p q = (h x p.0 q.0, all_both P Q R h xs p.1 q.1)

-- ---- what each rule says, where all are kept

pub record Keeps (facts : Facts) (line : Line) : Type 0 where
  pub one_way : keeps_one_way facts line.deed ≡ true
  pub own_in_place : is_own_in_place facts line.deed ≡ true
  pub own_reads : are_good_reads facts (is_own_read facts) line.deed ≡ true
  pub unaccumulated : are_good_reads facts (is_unaccumulated facts) line.deed ≡ true
  pub foreseen : is_foreseen facts line.around line.deed ≡ true
  pub bounded : is_bounded line.around line.deed ≡ true
  pub asks : asks_unwritten facts line.deed ≡ true

pub rules_kept : (facts : Facts) (line : Line) → KeepsAll facts line → Keeps facts line
rules_kept facts line h =
    let own = is_own_in_place facts line.deed in
    let reads = are_good_reads facts (is_own_read facts) line.deed in
    let acc = are_good_reads facts (is_unaccumulated facts) line.deed in
    let foreseen = is_foreseen facts line.around line.deed in
    let bounded = is_bounded line.around line.deed in
    let asks = asks_unwritten facts line.deed in
    let a = and_parts (keeps_one_way facts line.deed) ((own && reads) && (acc && (foreseen && (bounded && (asks && true))))) h in
    let b = and_parts (own && reads) (acc && (foreseen && (bounded && (asks && true)))) a.1 in
    let c = and_parts acc (foreseen && (bounded && (asks && true))) b.1 in
    let d = and_parts foreseen (bounded && (asks && true)) c.1 in
    let e = and_parts bounded (asks && true) d.1 in
    let o = and_parts own reads b.0 in
    record { one_way = a.0; own_in_place = o.0; own_reads = o.1; unaccumulated = c.0; foreseen = d.0; bounded = e.0; asks = (and_parts asks true e.1).0 }

-- ---- the field that a line writes is one that the lines write

abbrev IsFieldOf : List Line → Line → Type 0
IsFieldOf lines line = (layout place : ℕ) → deed_writes layout place line.deed ≡ true → writes_field lines layout place ≡ true

fields_of : (lines : List Line) → AllByRecursion (IsFieldOf lines) lines
fields_of [] = tt
fields_of (line ∷ lines) = (
  λ layout place h. or_left (deed_writes layout place line.deed) (writes_field lines layout place) h,
  all_mapped (IsFieldOf lines) (IsFieldOf (line ∷ lines))
      (λ it h layout place e. or_right (deed_writes layout place line.deed) (writes_field lines layout place) (h layout place e))
      lines (fields_of lines),
)

-- ---- what the closed set says of each line

abbrev ClosedAt : (ℕ → ℕ → Bool) → (ℕ → Bool) → Line → Type 0
ClosedAt fields vars line = IsClosed fields (givings_of line.around line.deed) vars

pub closed_lines : (fields : ℕ → ℕ → Bool) (vars : ℕ → Bool) (lines : List Line) → IsClosed fields (givings lines) vars → AllByRecursion (ClosedAt fields vars) lines
closed_lines fields vars [] h = tt
closed_lines fields vars (line ∷ lines) h = (
  all_front (λ giving. is_clean_giving (record { fields = fields; vars = vars }) giving ≡ false → vars giving.var ≡ true) (givings_of line.around line.deed) (givings lines) h,
  closed_lines fields vars lines (back (givings_of line.around line.deed) h),
)
  where
    back : (front : List Giving) → IsClosed fields (front ++ givings lines) vars → IsClosed fields (givings lines) vars
    back [] h = h
    back (giving ∷ front) h = back front h.1

-- ---- a line that keeps the rules is sound

module _ (kernel : TypedKernel) where
  abbrev lines : List Line
  lines = kernel_lines kernel

  abbrev unclean : Unclean
  unclean = unclean_in lines

  sound : (around : Around) (deed : Deed) (number : ℕ) → Keeps (facts_of kernel) (line_of number around deed) → IsFieldOf lines (line_of number around deed)
      → ClosedAt unclean.fields unclean.vars (line_of number around deed) → IsSound (walked_by kernel.domain) unclean around deed
  sound around (Sets var value) number keeps field closed = closed.0
  sound around (Writes layout place index way value) number keeps field closed = (
    field layout place (and_from (layout == layout) (place == place) (eq-eqb layout layout refl) (eq-eqb place place refl)),
    λ active. foreseen (may_activate (walked_by kernel.domain) layout way) active (list_all (is_clean unclean) index) (list_all (is_clean unclean) around.conditions) keeps.foreseen,
  )
    where
      foreseen : (active : Bool) → active ≡ true → (index conditions : Bool) → (not active || (index && conditions)) ≡ true → (index ≡ true) × (conditions ≡ true)
      foreseen true e index conditions h = and_parts index conditions h
      foreseen false e index conditions h = absurd (both_ways false refl e)
  sound around (Tests condition) number keeps field closed = tt
  sound around (Turns var range) number keeps field closed =
      let p = and_parts (is_constant_range range) _ keeps.bounded in
      let q = and_parts (is_constant range.lo) (is_constant range.hi) p.0 in
      (closed.0, (constant_is_clean unclean range.lo q.0, constant_is_clean unclean range.hi q.1))
  sound around (Opens ranges) number keeps field closed = tt

  pub all_sound : AllByRecursion (KeepsAll (facts_of kernel)) lines → AllByRecursion (SoundLine (walked_by kernel.domain) unclean) lines
  all_sound keep =
      let closed = closed_lines unclean.fields unclean.vars lines (dirty_is_closed (writes_field lines) (givings lines)) in
      all_both (KeepsAll (facts_of kernel)) (λ line. IsFieldOf lines line × ClosedAt unclean.fields unclean.vars line) (SoundLine (walked_by kernel.domain) unclean)
      (λ line k fc. sound line.around line.deed line.number (rules_kept (facts_of kernel) line k) fc.0 fc.1) lines keep
      (all_both (IsFieldOf lines) (ClosedAt unclean.fields unclean.vars) (λ line. IsFieldOf lines line × ClosedAt unclean.fields unclean.vars line) (λ line f c. (f, c)) lines (fields_of lines) closed)

pub slice_wants : SliceWantsWhatIsWritten
slice_wants world kernel kept at h =
    let is = admitted_is kernel kept h in
    let agree = body_follows (walked_by kernel.domain) (unclean_in (kernel_lines kernel)) world kernel.body nothing_round true refl (all_sound kernel is.keep).1
    (first_moment at) (first_moment at) (record { words = λ var e. refl; writes = refl; only = refl }) in
    rw is.is agree.writes

pub domain_is_constant : DomainIsConstant
domain_is_constant world kernel kept h =
    let is = admitted_is kernel kept h in
    let keeps = rules_kept (facts_of kernel) (line_of 0 nothing_round (Opens (domain_ranges kernel.domain))) is.keep.0 in
    rw is.is (same kernel.domain keeps.bounded)
  where
    same : (given : TypedDomain) → list_all is_constant_range (domain_ranges given) ≡ true → domain_of world given ≡ domain_of nowhere given
    same (domain.Walk layout) h = refl
    same (domain.Ranges ranges) h = box_same world nowhere ranges h
