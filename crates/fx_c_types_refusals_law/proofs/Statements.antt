-- The order in which a statement is tried, and nodes with one rule each.
use Rattle.std.proofs.Common.{◌+◌, Bool, true, false, nat_le, nat_lt, if◌then◌else◌, [], ◌∷◌, ◌++◌, length, Some, None, Ok, refl, ◌≡◌, Err, ◌∙◌}
use Rattle.fx_c_ast.specs.declared.operator.IntType.TheVariants.{Char}
use Rattle.fx_c_ast.specs.ParsedTrees.{ExprTree, StmtTree, MaybeStmt, ForTree}
use Rattle.fx_c_ast.specs.CheckedTrees.{SFor, IntTy, ArrayTy, ELiteral, SBreak, SContinue, SReturn}
use Rattle.fx_c_ast.specs.StackUse.{frame_size}
use Rattle.fx_c_types_rules.specs.declared.fault.TypeKind.{TypeKind}
use Rattle.fx_c_types_rules.specs.declared.fault.TypeKind.TheVariants.{TooLarge, ReturnType, BreakOutside, FrameTooLong}
use Rattle.fx_c_types_rules.specs.Checks.{Checked, ◌>>=◌, demand}
use Rattle.fx_c_types_rules.specs.Types.{is_void}
use Rattle.fx_c_types_rules.specs.Structs.{place_32}
use Rattle.fx_c_types_rules.specs.Locals.{types_of_locals}
use Rattle.fx_c_types_heads.specs.Sizes.{known}
use Rattle.fx_c_types_bodies.specs.Bodies.{ScopeTree, BodyTree, typed, maybe_typed, maybe_condition, checked, checked_maybe}
use Rattle.fx_c_types.specs.Programs.{function_of, with_function}
use Rattle.fx_c_types_refusals_law.specs.Nodes.{Tested, node_of}
use Rattle.fx_c_types_refusals_law.specs.Kinds.{IsRefusedFor}
use Rattle.fx_c_types_refusals_law.specs.NodeLaws.{StatementsAreTried, SingleRules}

bind_assoc : {A B C : Type 0} (r : Checked A) (g : A → Checked B) (f : B → Checked C) → ((r >>= g) >>= f) ≡ (r >>= (λ x. g x >>= f))
bind_assoc (Ok x) g f = refl
bind_assoc (Err e) g f = refl

bind_same : {A B : Type 0} (r : Checked A) (f g : A → Checked B) → ((x : A) → f x ≡ g x) → (r >>= f) ≡ (r >>= g)
bind_same (Ok x) f g same = same x
bind_same (Err e) f g same = refl

-- the test of a `for`, between its two parts
counted_tried : (s : ScopeTree) (loop : Bool) (b : BodyTree) (first next : MaybeStmt) (test : ExprTree) (body : StmtTree) → checked s loop b (ForTree first (Some test) next body) ≡ (checked_maybe s loop b first >>= (λ f. typed s f.1 test >>= (λ t. checked_maybe s loop t.1 next >>= (λ n. checked s true n.1 body >>= (λ x. node_of s x.1 (Tested t.0) >>= (λ c. Ok (SFor f.0 (Some c) n.0 x.0, x.1)))))))
counted_tried s loop b first next test body =
    bind_same (checked_maybe s loop b first) (λ f. maybe_typed s f.1 (Some test) >>= (λ t. checked_maybe s loop t.1 next >>= (λ n. checked s true n.1 body >>= (λ x. maybe_condition t.0 >>= (λ c. Ok (SFor f.0 c n.0 x.0, x.1)))))) (λ f. typed s f.1 test >>= (λ t. checked_maybe s loop t.1 next >>= (λ n. checked s true n.1 body >>= (λ x. node_of s x.1 (Tested t.0) >>= (λ c. Ok (SFor f.0 (Some c) n.0 x.0, x.1)))))) (λ f.
    bind_assoc (typed s f.1 test) (λ x. Ok (Some x.0, x.1)) (λ t. checked_maybe s loop t.1 next >>= (λ n. checked s true n.1 body >>= (λ x. maybe_condition t.0 >>= (λ c. Ok (SFor f.0 c n.0 x.0, x.1)))))
    ∙ bind_same (typed s f.1 test) (λ t. checked_maybe s loop t.1 next >>= (λ n. checked s true n.1 body >>= (λ x. maybe_condition (Some t.0) >>= (λ c. Ok (SFor f.0 c n.0 x.0, x.1))))) (λ t. checked_maybe s loop t.1 next >>= (λ n. checked s true n.1 body >>= (λ x. node_of s x.1 (Tested t.0) >>= (λ c. Ok (SFor f.0 (Some c) n.0 x.0, x.1))))) (λ t.
    bind_same (checked_maybe s loop t.1 next) (λ n. checked s true n.1 body >>= (λ x. maybe_condition (Some t.0) >>= (λ c. Ok (SFor f.0 c n.0 x.0, x.1)))) (λ n. checked s true n.1 body >>= (λ x. node_of s x.1 (Tested t.0) >>= (λ c. Ok (SFor f.0 (Some c) n.0 x.0, x.1)))) (λ n.
    bind_same (checked s true n.1 body) (λ x. maybe_condition (Some t.0) >>= (λ c. Ok (SFor f.0 c n.0 x.0, x.1))) (λ x. node_of s x.1 (Tested t.0) >>= (λ c. Ok (SFor f.0 (Some c) n.0 x.0, x.1))) (λ x.
    bind_assoc (node_of s x.1 (Tested t.0)) (λ e. Ok (Some e)) (λ c. Ok (SFor f.0 c n.0 x.0, x.1))))))

pub statements_tried : StatementsAreTried
statements_tried = record {
  assignment = λ s loop b to e. refl;
  condition = λ s loop b test one other. refl;
  repetition = λ s loop b test body. refl;
  counted = counted_tried;
  endless = λ s loop b first next body. refl;
  result = λ s loop b e. refl;
  declaration = λ s loop b shared t name init. refl;
}

one_rule : {A : Type 0} (test : Bool) (kind : TypeKind) (x : A) → IsRefusedFor (demand test kind (Ok x)) (if test then None else Some kind)
one_rule true kind x = refl
one_rule false kind x = refl

pub single_rules : SingleRules
single_rules = record {
  string = λ s b bytes. one_rule (nat_lt (length bytes) 67108864) TooLarge (ELiteral (ArrayTy (IntTy Char) (length bytes + 1)) (place_32 (length b.literals)), record b { literals = b.literals ++ (bytes ++ 0 ∷ []) ∷ [] });
  break = λ s loop b. one_rule loop BreakOutside (SBreak, b);
  continue = λ s loop b. one_rule loop BreakOutside (SContinue, b);
  no_value = λ s loop b. one_rule (is_void s.answer) ReturnType (SReturn None, b);
  frame = λ h b f x. one_rule (nat_le (frame_size (known h.layouts) (types_of_locals x.1.locals) x.0) 65536) FrameTooLong (with_function b x.1.literals (function_of f x.1.locals x.0));
}
