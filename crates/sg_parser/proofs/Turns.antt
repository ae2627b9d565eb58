-- One turn of each loop.
use Rattle.std.specs.Prelude.{◌≡◌, refl, ℕ, suc, ◌≤◌, ◌<◌, max, true, false, nat_lt, List, [], ◌∷◌, ◌++◌, map, Option, Some, None}
use Rattle.std.proofs.Common.{arith}
use Rattle.std.proofs.lemmas.Bool.{lt-ltb, le-ltb}
use Rattle.sg_words.specs.declared.operators.BinOp.{BinOp}
use Rattle.sg_ast.specs.declared.token.Sign.TheVariants as s
use Rattle.sg_ast.specs.declared.token.Token.{Token}
use Rattle.sg_ast.specs.declared.expr.Expr.{Expr}
use Rattle.sg_ast.specs.declared.expr.Expr.TheVariants as e
use Rattle.sg_ast.specs.Expr.{depth, largest, right_needs}
use Rattle.sg_parser.specs.Front.{Reader, after_sign, next_op, comma_list_from, list_to_end_from}
use Rattle.sg_parser.specs.ReadExpr.{operator_goes_on, climb}

-- a list with commas: on after a comma, done if there is none, stuck if no item is read
pub listed_turn : {A : Type 0} (one : Reader A) (m n : ℕ) (found : List A) (tokens : List Token) (x : A) (mid behind : List Token)
    → m ≡ suc n → one tokens ≡ Some (x, mid) → after_sign s.Comma mid ≡ Some behind → comma_list_from one m found tokens ≡ comma_list_from one n (found ++ x ∷ []) behind
unfolding comma_list_from
listed_turn one m n found tokens x mid behind is read comma = rw (is, read, comma) refl

pub listed_done : {A : Type 0} (one : Reader A) (m n : ℕ) (found : List A) (tokens : List Token) (x : A) (mid : List Token)
    → m ≡ suc n → one tokens ≡ Some (x, mid) → after_sign s.Comma mid ≡ None → comma_list_from one m found tokens ≡ Some (found ++ x ∷ [], mid)
unfolding comma_list_from
listed_done one m n found tokens x mid is read comma = rw (is, read, comma) refl

pub listed_stuck : {A : Type 0} (one : Reader A) (m n : ℕ) (found : List A) (tokens : List Token)
    → m ≡ suc n → one tokens ≡ None → comma_list_from one m found tokens ≡ None
unfolding comma_list_from
listed_stuck one m n found tokens is read = rw (is, read) refl

pub largest-push : (ns : List ℕ) (n : ℕ) → largest (ns ++ n ∷ []) ≡ max (largest ns) n
largest-push [] n = omega arith
largest-push (m ∷ ns) n = omega (arith, largest-push ns n)

pub deepest-push : (trees : List Expr) (tree : Expr) → largest (map depth (trees ++ tree ∷ [])) ≡ max (largest (map depth trees)) (depth tree)
deepest-push [] tree = omega arith
deepest-push (first ∷ trees) tree = omega (arith, deepest-push trees tree)

-- an operator after what was read so far
module _ (expr : ℕ → Reader Expr) (limit least : ℕ) where
  pub climb_turn : (m n : ℕ) (left right : Expr) (op : BinOp) (tokens behind rest : List Token)
      → m ≡ suc n → next_op tokens ≡ Some (op, behind) → operator_goes_on least left op ≡ true → depth left < limit → expr (right_needs op) behind ≡ Some (right, rest)
      → climb expr limit least m left tokens ≡ climb expr limit least n (e.Bin op left right) rest
  unfolding climb
  climb_turn m n left right op tokens behind rest is next on small read =
      let within : nat_lt (depth left) limit ≡ true = lt-ltb (depth left) limit small in
      rw (is, next, on, within, read) refl

  pub climb_stuck : (m n : ℕ) (left : Expr) (op : BinOp) (tokens behind : List Token)
      → m ≡ suc n → next_op tokens ≡ Some (op, behind) → operator_goes_on least left op ≡ true → depth left < limit → expr (right_needs op) behind ≡ None
      → climb expr limit least m left tokens ≡ None
  unfolding climb
  climb_stuck m n left op tokens behind is next on small read =
      let within : nat_lt (depth left) limit ≡ true = lt-ltb (depth left) limit small in
      rw (is, next, on, within, read) refl

  pub climb_deep : (m n : ℕ) (left : Expr) (op : BinOp) (tokens behind : List Token)
      → m ≡ suc n → next_op tokens ≡ Some (op, behind) → operator_goes_on least left op ≡ true → limit ≤ depth left
      → climb expr limit least m left tokens ≡ None
  unfolding climb
  climb_deep m n left op tokens behind is next on large =
      let within : nat_lt (depth left) limit ≡ false = le-ltb (depth left) limit large in
      rw (is, next, on, within) refl

  pub climb_off : (m n : ℕ) (left : Expr) (op : BinOp) (tokens behind : List Token)
      → m ≡ suc n → next_op tokens ≡ Some (op, behind) → operator_goes_on least left op ≡ false → climb expr limit least m left tokens ≡ Some (left, tokens)
  unfolding climb
  climb_off m n left op tokens behind is next off = rw (is, next, off) refl

  pub climb_end : (m n : ℕ) (left : Expr) (tokens : List Token) → m ≡ suc n → next_op tokens ≡ None → climb expr limit least m left tokens ≡ Some (left, tokens)
  unfolding climb
  climb_end m n left tokens is next = rw (is, next) refl

-- a list up to its end: one item more
pub repeated_turn : {A : Type 0} (end : List Token → Option (List Token)) (one : Reader A) (m n : ℕ) (found : List A) (tokens : List Token) (x : A) (behind : List Token)
    → m ≡ suc n → end tokens ≡ None → one tokens ≡ Some (x, behind) → list_to_end_from end one m found tokens ≡ list_to_end_from end one n (found ++ x ∷ []) behind
unfolding list_to_end_from
repeated_turn end one m n found tokens x behind is no_end read = rw (is, no_end, read) refl

pub repeated_done : {A : Type 0} (end : List Token → Option (List Token)) (one : Reader A) (m n : ℕ) (found : List A) (tokens rest : List Token)
    → m ≡ suc n → end tokens ≡ Some rest → list_to_end_from end one m found tokens ≡ Some (found, rest)
unfolding list_to_end_from
repeated_done end one m n found tokens rest is ends = rw (is, ends) refl

pub repeated_stuck : {A : Type 0} (end : List Token → Option (List Token)) (one : Reader A) (m n : ℕ) (found : List A) (tokens : List Token)
    → m ≡ suc n → end tokens ≡ None → one tokens ≡ None → list_to_end_from end one m found tokens ≡ None
unfolding list_to_end_from
repeated_stuck end one m n found tokens is no_end read = rw (is, no_end, read) refl
