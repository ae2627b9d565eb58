-- What is held, node by node.
use Rattle.std.proofs.Common.{◌≡◌, ℕ, zero, suc, ◌==◌, Bool, true, false, not, cond, ◌&&◌, ◌||◌, List, [], ◌∷◌, length, map, Some, refl, sym, ap, ◌∙◌}
use Rattle.std.specs.Prelude.{filter, slice_get}
use Rattle.std.specs.List.{list_any}
use Rattle.std.proofs.lemmas.Bool.{both_ways, and_parts, cond-true, cond-false, eqb-true, false_from_ne_true, or_left, or_right}
use Rattle.std.proofs.lemmas.Option.{none-some, same_Some}
use Rattle.std.proofs.lemmas.List.{length-map}
use Rattle.sg_journal.specs.declared.lines.Link.{Link}
use Rattle.sg_journal.specs.Journal.{has_number, has_node, count_at, is_held, is_taken}
use Rattle.sg_audit.specs.declared.table.NodeLink.{NodeLink}
use Rattle.sg_audit.specs.steps.Tables.{has_this, stands_in, node_link, links_of}
use Rattle.sg_audit.proofs.NodeLinks.{rest_of}

-- ---- an item that passes

pub any_from : {X : Type 0} (p : X → Bool) (xs : List X) (i : ℕ) (x : X) → slice_get xs i ≡ Some x → p x ≡ true → list_any p xs ≡ true
any_from p [] i x at passes = absurd (none-some x at)
any_from p (y ∷ ys) zero x at passes =
    or_left (p y) (list_any p ys) (ap p (same_Some y x at) ∙ passes)
any_from p (y ∷ ys) (suc i) x at passes = or_right (p y) (list_any p ys) (any_from p ys i x at passes)

pub record IsFound {X : Type 0} (p : X → Bool) (xs : List X) : Type 0 where
  pub index : ℕ
  pub item : X
  pub at : slice_get xs index ≡ Some item
  pub passes : p item ≡ true

pub any_into : {X : Type 0} (p : X → Bool) (xs : List X) → list_any p xs ≡ true → IsFound p xs
any_into p [] e = absurd (both_ways false refl e)
any_into {X} p (x ∷ xs) e = by_case (p x) refl e (any_into p xs) where
  by_case : (b : Bool) → p x ≡ b → (b || list_any p xs) ≡ true → (list_any p xs ≡ true → IsFound p xs) → IsFound p (x ∷ xs)
  by_case true is e rest = record { index = 0; item = x; at = refl; passes = is }
  by_case false is e rest = let found = rest e in record { index = suc found.index; item = found.item; at = found.at; passes = found.passes }

-- ---- tests of what is held, by the links of a node

pub any_at : (q : NodeLink → Bool) (layout node : ℕ) (held : List Link) → list_any (λ (x : Link). (x.layout == layout) && ((x.node == node) && q (node_link x))) held ≡ list_any q (links_of held layout node)
any_at q layout node [] = refl
any_at q layout node (x ∷ xs) = by_case (x.layout == layout) (x.node == node) (any_at q layout node xs) where
  test : Link → Bool
  test = λ (x : Link). (x.layout == layout) && ((x.node == node) && q (node_link x))

  by_case : (a b : Bool) → list_any test xs ≡ list_any q (links_of xs layout node)
      → ((a && (b && q (node_link x))) || list_any test xs) ≡ list_any q (map node_link (cond (a && b) (x ∷ filter (has_node layout node) xs) (filter (has_node layout node) xs)))
  by_case true true rest = ap (λ r. q (node_link x) || r) rest
  by_case true false rest = rest
  by_case false b rest = rest

pub held_at : (held : List Link) (layout node number : ℕ) → is_held held layout node number ≡ list_any (has_this number) (links_of held layout node)
held_at held layout node number = any_at (has_this number) layout node held

pub taken_at : (held : List Link) (layout node parent slot : ℕ) → is_taken held layout node parent slot ≡ list_any (stands_in parent slot) (links_of held layout node)
taken_at held layout node parent slot = any_at (stands_in parent slot) layout node held

pub count_of_links : (held : List Link) (layout node : ℕ) → count_at held layout node ≡ length (links_of held layout node)
count_of_links held layout node = sym (length-map (filter (has_node layout node) held) node_link)

-- ---- one more

pub links_more : (link : Link) (held : List Link) (layout node : ℕ) → has_node layout node link ≡ true → links_of (link ∷ held) layout node ≡ node_link link ∷ links_of held layout node
links_more link held layout node is = ap (map node_link) (cond-true (has_node layout node link) (link ∷ filter (has_node layout node) held) (filter (has_node layout node) held) is)

pub links_other : (link : Link) (held : List Link) (layout node : ℕ) → has_node layout node link ≡ false → links_of (link ∷ held) layout node ≡ links_of held layout node
links_other link held layout node is = ap (map node_link) (cond-false (has_node layout node link) (link ∷ filter (has_node layout node) held) (filter (has_node layout node) held) is)

-- ---- one less

abbrev pub but_number : (layout node number : ℕ) → List Link → List Link
but_number layout node number held = filter (λ link. not (has_number layout node number link)) held

and_assoc : (a b c : Bool) → (a && (b && c)) ≡ ((a && b) && c)
and_assoc true b c = refl
and_assoc false b c = refl

number_at_node : (layout node number : ℕ) (x : Link) → has_number layout node number x ≡ (has_node layout node x && has_this number (node_link x))
number_at_node layout node number x = and_assoc (x.layout == layout) (x.node == node) (x.number == number)

-- a link that is let go, and one that stays
gone : (layout node number : ℕ) (x : Link) (xs : List Link) → has_number layout node number x ≡ true → but_number layout node number (x ∷ xs) ≡ but_number layout node number xs
gone layout node number x xs is = cond-false (not (has_number layout node number x)) (x ∷ but_number layout node number xs) (but_number layout node number xs) (ap not is)

stays : (layout node number : ℕ) (x : Link) (xs : List Link) → has_number layout node number x ≡ false → but_number layout node number (x ∷ xs) ≡ x ∷ but_number layout node number xs
stays layout node number x xs is = cond-true (not (has_number layout node number x)) (x ∷ but_number layout node number xs) (but_number layout node number xs) (ap not is)

pub links_less : (held : List Link) (layout node number : ℕ) → links_of (but_number layout node number held) layout node ≡ rest_of number (links_of held layout node)
links_less [] layout node number = refl
links_less (x ∷ xs) layout node number = by_case (has_node layout node x) refl (has_this number (node_link x)) refl (links_less xs layout node number) where
  links : List NodeLink
  links = links_of xs layout node

  by_case : (h : Bool) → has_node layout node x ≡ h → (c : Bool) → has_this number (node_link x) ≡ c → links_of (but_number layout node number xs) layout node ≡ rest_of number (links_of xs layout node)
      → links_of (but_number layout node number (x ∷ xs)) layout node ≡ rest_of number (links_of (x ∷ xs) layout node)
  by_case true is true same rest =
      ap (λ (l : List Link). links_of l layout node) (gone layout node number x xs (number_at_node layout node number x ∙ ap (λ b. b && has_this number (node_link x)) is ∙ same))
      ∙ rest
      ∙ sym (ap (rest_of number) (links_more x xs layout node is) ∙ cond-false (not (has_this number (node_link x))) (node_link x ∷ rest_of number links) (rest_of number links) (ap not same))
  by_case true is false other rest =
      ap (λ (l : List Link). links_of l layout node) (stays layout node number x xs (number_at_node layout node number x ∙ ap (λ b. b && has_this number (node_link x)) is ∙ other))
      ∙ links_more x (but_number layout node number xs) layout node is
      ∙ ap (λ (l : List NodeLink). node_link x ∷ l) rest
      ∙ sym (ap (rest_of number) (links_more x xs layout node is) ∙ cond-true (not (has_this number (node_link x))) (node_link x ∷ rest_of number links) (rest_of number links) (ap not other))
  by_case false is c same rest =
      ap (λ (l : List Link). links_of l layout node) (stays layout node number x xs (number_at_node layout node number x ∙ ap (λ b. b && has_this number (node_link x)) is))
      ∙ links_other x (but_number layout node number xs) layout node is
      ∙ rest
      ∙ sym (ap (rest_of number) (links_other x xs layout node is))

-- a free of one node leaves those of the others
pub links_apart : (held : List Link) (layout node number other_layout other : ℕ) → ((layout ≡ other_layout) → (node ≡ other) → ⊥) → links_of (but_number layout node number held) other_layout other ≡ links_of held other_layout other
links_apart [] layout node number other_layout other apart = refl
links_apart (x ∷ xs) layout node number other_layout other apart = by_case (has_number layout node number x) refl (links_apart xs layout node number other_layout other apart) where
  by_node : (h : Bool) → has_node other_layout other x ≡ h → links_of (but_number layout node number xs) other_layout other ≡ links_of xs other_layout other
      → links_of (x ∷ but_number layout node number xs) other_layout other ≡ links_of (x ∷ xs) other_layout other
  by_node true is rest = links_more x (but_number layout node number xs) other_layout other is ∙ ap (λ (l : List NodeLink). node_link x ∷ l) rest ∙ sym (links_more x xs other_layout other is)
  by_node false is rest = links_other x (but_number layout node number xs) other_layout other is ∙ rest ∙ sym (links_other x xs other_layout other is)

  by_case : (k : Bool) → has_number layout node number x ≡ k → links_of (but_number layout node number xs) other_layout other ≡ links_of xs other_layout other
      → links_of (but_number layout node number (x ∷ xs)) other_layout other ≡ links_of (x ∷ xs) other_layout other
  by_case true is rest =
      let parts = and_parts (x.layout == layout) ((x.node == node) && (x.number == number)) is in
      let more = and_parts (x.node == node) (x.number == number) parts.1 in
      let away : has_node other_layout other x ≡ false = false_from_ne_true (has_node other_layout other x) (λ there.
      let here = and_parts (x.layout == other_layout) (x.node == other) there in
      apart (sym (eqb-true x.layout layout parts.0) ∙ eqb-true x.layout other_layout here.0) (sym (eqb-true x.node node more.0) ∙ eqb-true x.node other here.1)) in
      ap (λ (l : List Link). links_of l other_layout other) (gone layout node number x xs is) ∙ rest ∙ sym (links_other x xs other_layout other away)
  by_case false is rest =
      ap (λ (l : List Link). links_of l other_layout other) (stays layout node number x xs is)
      ∙ by_node (has_node other_layout other x) refl rest
