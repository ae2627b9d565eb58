-- Sound lines hold each number in one slot, and each slot with one number.
use Rattle.std.proofs.Common.{◌≡◌, ℕ, zero, suc, Bool, true, false, not, eqb, List, [], ◌∷◌, Option, Some, None, refl, sym, ap, ◌∙◌, subst, arith}
use Rattle.std.specs.Prelude.{take, filter, Contains, option_and_then, ◌&&◌, ◌||◌}
use Rattle.std.specs.List.{list_any}
use Rattle.std.proofs.lemmas.Bool.{both_ways, cond_both, and_parts, not-true, eqb-true, eq-eqb}
use Rattle.std.proofs.lemmas.Option.{option_and_then_some}
use Rattle.sg_words.specs.Options.{only_if}
use Rattle.sg_journal.specs.declared.lines.Link.{Link}
use Rattle.sg_journal.specs.declared.lines.Line.{Line}
use Rattle.sg_journal.specs.declared.lines.Line.TheVariants.{Take, Free}
use Rattle.sg_journal.specs.declared.rooms.Room.{Room}
use Rattle.sg_journal.specs.Journal.{Rooms, has_number, has_slot, is_held, is_taken, take_fits, is_sound_take, is_sound_free, follow, held_after}
use Rattle.sg_journal.specs.LineLaws.{HoldsOnce, SoundHoldsOnce}

abbrev pub Key : Type 0
Key = Link → Link → Bool

abbrev pub number_key : Key
number_key x y = has_number x.layout x.node x.number y

abbrev pub slot_key : Key
slot_key x y = has_slot x.layout x.node x.parent x.slot y

-- the first link's key is that of no other, and so on
abbrev pub AreApart : Key → List Link → Type 0
AreApart key [] = Unit {0}
AreApart key (x ∷ xs) = (list_any (key x) xs ≡ false) × AreApart key xs

abbrev pub AreOnce : List Link → Type 0
AreOnce held = AreApart number_key held × AreApart slot_key held

pub or_none : (a b : Bool) → (a || b) ≡ false → (a ≡ false) × (b ≡ false)
or_none true b e = absurd (both_ways true e refl)
or_none false b e = (refl, e)

pub or_of : (a b : Bool) → a ≡ false → b ≡ false → (a || b) ≡ false
or_of true b e f = absurd (both_ways true e refl)
or_of false b e f = f

pub and_of : (a b : Bool) → a ≡ true → b ≡ true → (a && b) ≡ true
and_of true b e f = f
and_of false b e f = absurd (both_ways false refl e)

-- where none of a list passes a test, none of a part of it does
pub none_left : (p keeps : Link → Bool) (xs : List Link) → list_any p xs ≡ false → list_any p (filter keeps xs) ≡ false
none_left p keeps [] none = refl
none_left p keeps (x ∷ xs) none =
    let parts = or_none (p x) (list_any p xs) none in
    let rest = none_left p keeps xs parts.1 in
    cond_both (keeps x) (x ∷ filter keeps xs) (filter keeps xs) (λ (l : List Link). list_any p l ≡ false) (λ _. or_of (p x) (list_any p (filter keeps xs)) parts.0 rest) (λ _. rest)

pub apart_left : (key : Key) (keeps : Link → Bool) (xs : List Link) → AreApart key xs → AreApart key (filter keeps xs)
apart_left key keeps [] apart = tt
apart_left key keeps (x ∷ xs) apart =
    cond_both (keeps x) (x ∷ filter keeps xs) (filter keeps xs) (AreApart key)
    (λ _. (none_left (key x) keeps xs apart.0, apart_left key keeps xs apart.1))
    (λ _. apart_left key keeps xs apart.1)

-- what a test that passed lets through
only_some : (b : Bool) (x y : List Link) → only_if b (Some x) ≡ Some y → (b ≡ true) × (x ≡ y)
only_some true x y e = (refl, cc)
only_some false x y e = absurd (cc)

-- a sound take is of a number that isn't held, into a slot that holds nothing
free_before : (held : List Link) (link : Link) (room : Option Room) → take_fits held link room ≡ true
    → (is_held held link.layout link.node link.number ≡ false) × (is_taken held link.layout link.node link.parent link.slot ≡ false)
free_before held link None e = absurd (both_ways false refl e)
free_before held link (Some room) e =
    let one = and_parts _ _ e in
    let two = and_parts _ _ one.1 in
    let three = and_parts _ _ two.1 in
    (not-true _ two.0, not-true _ three.0)

pub once_after : (rooms : Rooms) (held : List Link) (line : Line) (next : List Link) → follow rooms held line ≡ Some next → AreOnce held → AreOnce next
once_after rooms held (Take link) next e once =
    let found = only_some (is_sound_take rooms held link) (link ∷ held) next e in
    let free = free_before held link (rooms link.layout link.node) found.0 in
    subst AreOnce found.1 ((free.0, once.0), (free.1, once.1))
once_after rooms held (Free layout node number) next e once =
    let keeps : Link → Bool = λ link. not (has_number layout node number link) in
    let found = only_some (is_sound_free rooms held layout node number) (filter keeps held) next e in
    subst AreOnce found.1 (apart_left number_key keeps held once.0, apart_left slot_key keeps held once.1)

-- ---- what is held once

pub absent : (p : Link → Bool) (xs : List Link) (y : Link) → list_any p xs ≡ false → Contains xs y → p y ≡ true → ⊥
absent p [] y none (k, below, same) passes = absurd (omega arith)
absent p (x ∷ xs) y none (zero, below, same) passes = both_ways (p y) (subst (λ (z : Link). p z ≡ false) same (or_none (p x) (list_any p xs) none).0) passes
absent p (x ∷ xs) y none (suc k, below, same) passes = absent p xs y (or_none (p x) (list_any p xs) none).1 (k, omega arith, same) passes

abbrev GoesBack : Key → Type 0
GoesBack key = (x y : Link) → key x y ≡ true → key y x ≡ true

same_again : (a b : ℕ) → eqb a b ≡ true → eqb b a ≡ true
same_again a b e = eq-eqb b a (sym (eqb-true a b e))

pub number_back : GoesBack number_key
number_back x y e =
    let one = and_parts _ _ e in
    let two = and_parts _ _ one.1 in
    and_of _ _ (same_again y.layout x.layout one.0) (and_of _ _ (same_again y.node x.node two.0) (same_again y.number x.number two.1))

slot_back : GoesBack slot_key
slot_back x y e =
    let one = and_parts _ _ e in
    let two = and_parts _ _ one.1 in
    let three = and_parts _ _ two.1 in
    and_of _ _ (same_again y.layout x.layout one.0)
    (and_of _ _ (same_again y.node x.node two.0) (and_of _ _ (same_again y.parent x.parent three.0) (same_again y.slot x.slot three.1)))

pub one_of_key : (key : Key) → GoesBack key → (held : List Link) → AreApart key held → (x y : Link) → Contains held x → Contains held y → key x y ≡ true → x ≡ y
one_of_key key back [] apart x y (k, below, same) there e = absurd (omega arith)
one_of_key key back (z ∷ zs) apart x y (zero, below, same) (zero, under, equal) e = sym same ∙ equal
one_of_key key back (z ∷ zs) apart x y (zero, below, same) (suc j, under, equal) e =
    absurd (absent (key x) zs y (subst (λ (w : Link). list_any (key w) zs ≡ false) same apart.0) (j, omega arith, equal) e)
one_of_key key back (z ∷ zs) apart x y (suc k, below, same) (zero, under, equal) e =
    absurd (absent (key y) zs x (subst (λ (w : Link). list_any (key w) zs ≡ false) equal apart.0) (k, omega arith, same) (back x y e))
one_of_key key back (z ∷ zs) apart x y (suc k, below, same) (suc j, under, equal) e =
    one_of_key key back zs apart.1 x y (k, omega arith, same) (j, omega arith, equal) e

pub holds_once : (held : List Link) → AreOnce held → HoldsOnce held
holds_once held once = record { numbers = one_of_key number_key number_back held once.0; slots = one_of_key slot_key slot_back held once.1 }

-- ---- after each line

abbrev Held : Rooms → List Link → List Line → Type 0
Held rooms start lines = (held : List Link) × (held_after rooms start lines ≡ Some held) × AreOnce held

after_each : (rooms : Rooms) (start : List Link) (lines : List Line) (last : List Link) → held_after rooms start lines ≡ Some last → AreOnce start → (k : ℕ) → Held rooms start (take k lines)
after_each rooms start [] last e once zero = (start, refl, once)
after_each rooms start [] last e once (suc k) = (start, refl, once)
after_each rooms start (line ∷ lines) last e once zero = (start, refl, once)
after_each rooms start (line ∷ lines) last e once (suc k) =
    option_and_then_some (λ (next : List Link). held_after rooms next lines) (follow rooms start line) last e (λ next first more.
    let rest = after_each rooms next lines last more (once_after rooms start line next first once) k in
    (rest.0, ap (λ (o : Option (List Link)). option_and_then (λ (next : List Link). held_after rooms next (take k lines)) o) first ∙ rest.1, rest.2))

pub each_line_holds_once : SoundHoldsOnce
each_line_holds_once rooms lines last e k =
    let found = after_each rooms [] lines last e (tt, tt) k in
    (found.0, found.1, holds_once found.0 found.2)
