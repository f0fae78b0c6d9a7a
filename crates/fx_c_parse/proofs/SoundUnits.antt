-- What is read as a declaration is one in the grammar.
use Rattle.std.proofs.Common.{◌≡◌, ℕ, ◌+◌, ◌≤◌, Bool, true, false, List, [], ◌∷◌, ◌++◌, length, Option, Some, inl, inr, refl, sym, ap, ◌∙◌, subst, append_assoc, arith}
use Rattle.std.specs.Prelude.{if◌then◌else◌, ◌==◌, ◌&&◌, ◌||◌}
use Rattle.std.proofs.lemmas.Bool.{eqb-true}
use Rattle.std.proofs.lemmas.List.{append-nil}
use Rattle.fx_c_ast.specs.declared.parsed.Grant.{Grant}
use Rattle.fx_c_ast.specs.declared.parsed.Grant.TheVariants.{Private, Libraries, All}
use Rattle.fx_c_ast.specs.declared.parsed.Init.{Init}
use Rattle.fx_c_ast.specs.declared.parsed.Init.TheVariants.{Zero, Number, Text}
use Rattle.fx_c_ast.specs.ParsedTrees.{TypeTree, ParamTree, DeclTree, StructTree, GlobalTree, FunctionTree}
use Rattle.fx_c_lex.specs.declared.sign.TheConstants.{OPEN_PAREN, CLOSE_PAREN, OPEN_BRACE, CLOSE_BRACE, COMMA, SEMICOLON, ASSIGN, MINUS, STAR}
use Rattle.fx_c_lex.specs.declared.keyword.TheConstants.{SHARED, READ, ENTRY, STRUCT, VOID}
use Rattle.fx_c_parse.specs.declared.front.DeclarationFront.{DeclarationFront}
use Rattle.fx_c_parse.specs.declared.front.DeclarationFront.TheVariants as front
use Rattle.fx_c_parse.specs.Words.{Word, NameWord, KeywordWord, NumberWord, CharWord, TextWord, SignWord, first_name, first_number, tail, has_sign, has_keyword, after_sign}
use Rattle.fx_c_parse.specs.Reading.{◌>>=◌, Turn, Ends, Tries, turns}
use Rattle.fx_c_parse.specs.Fronts.{declaration_front}
use Rattle.fx_c_parse.specs.Fronts as fronts
use Rattle.fx_c_parse.specs.Types.{nesting, pointer_type_of, dims_of}
use Rattle.fx_c_parse.specs.Statements.{declarator_of, statement_at, statements_by, behind_shared}
use Rattle.fx_c_parse.specs.Declarations.{member_of, member_turn, members_of, structure_of, name_turn, names_of, grant_of, annotation_of, negated, first_constant, constant_value_of, initial_of, global_of, granted_of, parameter_of, parameter_turn, parameters_of, function_of, entry_of, plain_of, declaration_by, declaration_of}
use Rattle.fx_c_parse.specs.Grammar.{IsPointerType}
use Rattle.fx_c_parse.specs.Phrases.{IsDeclarator, declarator}
use Rattle.fx_c_parse.specs.Units.{IsList, no_item, next_item, IsMember, struct_member, IsNextName, next_name, IsGrant, no_grant, grant_all, grant_some, IsInitial, no_initial, negative, positive, byte_value, text_value, IsEntry, no_entry, entry, IsParameter, parameter, IsNextParameter, next_parameter, IsParameters, no_parameter, void_alone, parameters, IsDeclaration, structure, global, function}
use Rattle.fx_c_parse.proofs.Inversions.{bind_some, some_is, if_some, and_true, chosen, sign_first, keyword_first, behind_sign, name_first, number_first, turns_keep}
use Rattle.fx_c_parse.proofs.SoundTypes.{pointer_sound, dims_in}
use Rattle.fx_c_parse.proofs.SoundStatements.{declarator_sound, shared_is, statements_sound}

-- items that a repetition took
pub record Took {A : Type 0} (Is : List Word → A → List Word → Type 0) (first all : List A) (ws rest : List Word) : Type 0 where
  pub xs : List A
  pub same : all ≡ first ++ xs
  pub is : IsList Is ws xs rest

-- one turn of a repetition takes one item
abbrev pub TakesOne : {A : Type 0} → (List Word → A → List Word → Type 0) → (List A → List Word → Turn (List A)) → Type 0
TakesOne {A} Is step = (all y : List A) (here rest : List Word) → step all here ≡ Tries (Some (y, rest)) → (x : A) × (y ≡ all ++ x ∷ []) × Is here x rest

module _ (A : Type 0) (Is : List Word → A → List Word → Type 0) (step : List A → List Word → Turn (List A)) (takes : TakesOne Is step) (first : List A) (ws : List Word) where
  -- whatever items follow, all of them were taken from the start
  Kept : List A → List Word → Type 0
  Kept x here = (xs : List A) (end : List Word) → IsList Is here xs end → Took Is first (x ++ xs) ws end

  kept_more : (x y : List A) (here end : List Word) → Kept x here → step x here ≡ Tries (Some (y, end)) → Kept y end
  unfolding Kept
  kept_more x y here end kept f = λ xs last is.
      let one = takes x y here end f in
      let t = kept (one.0 ∷ xs) last (next_item one.2 is) in
      let q : y ++ xs ≡ x ++ (one.0 ∷ xs) = ap (λ l. l ++ xs) one.1 ∙ append_assoc x (one.0 ∷ []) xs in
      record { xs = t.xs; same = q ∙ t.same; is = t.is }

  pub list_sound : (n : ℕ) (all : List A) (rest : List Word) → turns step n first ws ≡ Some (all, rest) → Took Is first all ws rest × (step all rest ≡ Ends)
  unfolding Kept
  list_sound n all rest e =
      let start : Kept first ws = λ xs end is. record { xs = xs; same = refl; is = is } in
      let kept = turns_keep step Kept kept_more n first all ws rest start e in
      let t = kept.0 [] rest no_item in
      let found : Took Is first all ws rest = record { xs = t.xs; same = sym (append-nil all) ∙ t.same; is = t.is } in
      (found, kept.1)

abbrev Member : Type 0
Member = TypeTree × List ℕ

member_sound : (ws : List Word) (y : Member × List Word) → member_of ws ≡ Some y → IsMember ws y.0 y.1
member_sound ws y e =
    let d = bind_some (declarator_of ws) _ y e in
    let c = bind_some (after_sign SEMICOLON d.0.2) _ y d.2 in
    let is : IsDeclarator ws d.0.0 d.0.1 (SignWord SEMICOLON ∷ c.0) = subst (λ l. IsDeclarator ws d.0.0 d.0.1 l) (behind_sign SEMICOLON d.0.2 c.0 c.1) (declarator_sound ws d.0 d.1) in
    subst (λ (z : Member × List Word). IsMember ws z.0 z.1) (some_is ((d.0.0, d.0.1), c.0) y c.2) (struct_member is)

-- one more item
abbrev longer : {A : Type 0} → List A → A × List Word → Option (List A × List Word)
longer all x = Some (all ++ x.0 ∷ [], x.1)

member_turn_sound : TakesOne IsMember member_turn
member_turn_sound all y here rest e =
    let x = bind_some (member_of here) (longer all) (y, rest) (by_brace (has_sign CLOSE_BRACE here) e) in
    let q : (all ++ x.0.0 ∷ [], x.0.1) ≡ (y, rest) = some_is (all ++ x.0.0 ∷ [], x.0.1) (y, rest) x.2 in
    (x.0.0, sym (ap (λ (z : List Member × List Word). z.0) q), subst (λ l. IsMember here x.0.0 l) (ap (λ (z : List Member × List Word). z.1) q) (member_sound here x.0 x.1))
  where
    by_brace : (c : Bool) → (if c then Ends else Tries (member_of here >>= longer all)) ≡ Tries (Some (y, rest)) → (member_of here >>= longer all) ≡ Some (y, rest)
    by_brace true q = absurd cc
    by_brace false q = cc

-- a repetition that goes on until this sign ended before it
ends_at : {A : Type 0} → (s : ℕ) (here : List Word) (c : Bool) (more : Option (A × List Word)) → has_sign s here ≡ c → ◌≡◌ {A = Turn A} (if c then Ends else Tries more) Ends → has_sign s here ≡ true
ends_at s here true more q f = q
ends_at s here false more q f = absurd cc

structure_sound : (ws : List Word) (y : DeclTree × List Word) → has_sign OPEN_BRACE (tail ws) ≡ true → structure_of ws ≡ Some y → IsDeclaration (KeywordWord STRUCT ∷ ws) y.0 y.1
structure_sound ws y brace e =
    let n = bind_some (first_name ws) _ y e in
    let m = bind_some (members_of (tail (tail ws))) _ y n.2 in
    let c = bind_some (after_sign SEMICOLON m.0.1) _ y m.2 in
    let x = bind_some (member_of (tail (tail ws))) _ m.0 m.1 in
    let t = bind_some (turns member_turn (length x.0.1 + 1) (x.0.0 ∷ []) x.0.1) _ m.0 x.2 in
    let l = list_sound Member IsMember member_turn member_turn_sound (x.0.0 ∷ []) x.0.1 (length x.0.1 + 1) t.0.0 t.0.1 t.1 in
    let q : (t.0.0, tail t.0.1) ≡ m.0 = some_is (t.0.0, tail t.0.1) m.0 t.2 in
    let close : t.0.1 ≡ SignWord CLOSE_BRACE ∷ tail t.0.1 = sign_first CLOSE_BRACE t.0.1 (ends_at CLOSE_BRACE t.0.1 (has_sign CLOSE_BRACE t.0.1) _ refl l.1) in
    let end : t.0.1 ≡ SignWord CLOSE_BRACE ∷ SignWord SEMICOLON ∷ c.0 = close ∙ ap (λ (z : List Member × List Word). SignWord CLOSE_BRACE ∷ z.1) q ∙ ap (λ r. SignWord CLOSE_BRACE ∷ r) (behind_sign SEMICOLON m.0.1 c.0 c.1) in
    let all : m.0.0 ≡ x.0.0 ∷ l.0.xs = sym (ap (λ (z : List Member × List Word). z.0) q) ∙ l.0.same in
    let others : IsList IsMember x.0.1 l.0.xs (SignWord CLOSE_BRACE ∷ SignWord SEMICOLON ∷ c.0) = subst (λ r. IsList IsMember x.0.1 l.0.xs r) end l.0.is in
    let is : IsDeclaration (KeywordWord STRUCT ∷ NameWord n.0 ∷ SignWord OPEN_BRACE ∷ tail (tail ws)) (StructTree n.0 (x.0.0 ∷ l.0.xs)) c.0 = structure (member_sound (tail (tail ws)) x.0 x.1) others in
    let at : ws ≡ NameWord n.0 ∷ SignWord OPEN_BRACE ∷ tail (tail ws) = name_first ws n.0 n.1 ∙ ap (λ r. NameWord n.0 ∷ r) (sign_first OPEN_BRACE (tail ws) brace) in
    let whole : IsDeclaration (KeywordWord STRUCT ∷ ws) (StructTree n.0 m.0.0) c.0 = subst (λ r. IsDeclaration (KeywordWord STRUCT ∷ r) (StructTree n.0 m.0.0) c.0) (sym at) (subst (λ z. IsDeclaration (KeywordWord STRUCT ∷ NameWord n.0 ∷ SignWord OPEN_BRACE ∷ tail (tail ws)) (StructTree n.0 z) c.0) (sym all) is) in
    subst (λ (z : DeclTree × List Word). IsDeclaration (KeywordWord STRUCT ∷ ws) z.0 z.1) (some_is (StructTree n.0 m.0.0, c.0) y c.2) whole

-- a name behind a comma
abbrev longer_name : List (List ℕ) → List Word → List ℕ → Option (List (List ℕ) × List Word)
longer_name all here n = Some (all ++ n ∷ [], tail (tail here))

name_turn_sound : TakesOne IsNextName name_turn
name_turn_sound all y here rest e =
    let p = by_comma (has_sign COMMA here) refl e in
    let n = bind_some (first_name (tail here)) (longer_name all here) (y, rest) p.1 in
    let q : (all ++ n.0 ∷ [], tail (tail here)) ≡ (y, rest) = some_is (all ++ n.0 ∷ [], tail (tail here)) (y, rest) n.2 in
    let at : here ≡ SignWord COMMA ∷ NameWord n.0 ∷ tail (tail here) = sign_first COMMA here p.0 ∙ ap (λ l. SignWord COMMA ∷ l) (name_first (tail here) n.0 n.1) in
    let is : IsNextName here n.0 (tail (tail here)) = subst (λ l. IsNextName l n.0 (tail (tail here))) (sym at) next_name in
    (n.0, sym (ap (λ (z : List (List ℕ) × List Word). z.0) q), subst (λ l. IsNextName here n.0 l) (ap (λ (z : List (List ℕ) × List Word). z.1) q) is)
  where
    by_comma : (c : Bool) → has_sign COMMA here ≡ c → (if c then Tries (first_name (tail here) >>= longer_name all here) else Ends) ≡ Tries (Some (y, rest)) → (has_sign COMMA here ≡ true) × ((first_name (tail here) >>= longer_name all here) ≡ Some (y, rest))
    by_comma true q f = (q, cc)
    by_comma false q f = absurd cc

abbrev Granted : Type 0
Granted = Grant × List Word

grant_sound : (word : ℕ) (ws : List Word) (y : Granted) → grant_of ws ≡ Some y → IsGrant word (KeywordWord word ∷ SignWord OPEN_PAREN ∷ ws) y.0 y.1
grant_sound word ws y e = elim (if_some (has_sign STAR ws) _ _ y e) [
  | inl p ↦
      let c = bind_some (after_sign CLOSE_PAREN (tail ws)) _ y p.1 in
      let at : ws ≡ SignWord STAR ∷ SignWord CLOSE_PAREN ∷ c.0 = sign_first STAR ws p.0 ∙ ap (λ l. SignWord STAR ∷ l) (behind_sign CLOSE_PAREN (tail ws) c.0 c.1) in
      subst (λ (z : Granted). IsGrant word (KeywordWord word ∷ SignWord OPEN_PAREN ∷ ws) z.0 z.1) (some_is (All, c.0) y c.2) (subst (λ l. IsGrant word (KeywordWord word ∷ SignWord OPEN_PAREN ∷ l) All c.0) (sym at) grant_all)
  | inr p ↦
      let x = bind_some (names_of ws) _ y p.1 in
      let n = bind_some (first_name ws) _ x.0 x.1 in
      let t = bind_some (turns name_turn (length (tail ws) + 1) (n.0 ∷ []) (tail ws)) _ x.0 n.2 in
      let c = bind_some (after_sign CLOSE_PAREN t.0.1) _ x.0 t.2 in
      let l = list_sound (List ℕ) IsNextName name_turn name_turn_sound (n.0 ∷ []) (tail ws) (length (tail ws) + 1) t.0.0 t.0.1 t.1 in
      let q : (t.0.0, c.0) ≡ x.0 = some_is (t.0.0, c.0) x.0 c.2 in
      let others : IsList IsNextName (tail ws) l.0.xs (SignWord CLOSE_PAREN ∷ c.0) = subst (λ r. IsList IsNextName (tail ws) l.0.xs r) (behind_sign CLOSE_PAREN t.0.1 c.0 c.1) l.0.is in
      let is : IsGrant word (KeywordWord word ∷ SignWord OPEN_PAREN ∷ NameWord n.0 ∷ tail ws) (Libraries (n.0 ∷ l.0.xs)) c.0 = grant_some others in
      let at : IsGrant word (KeywordWord word ∷ SignWord OPEN_PAREN ∷ ws) (Libraries t.0.0) c.0 = subst (λ z. IsGrant word (KeywordWord word ∷ SignWord OPEN_PAREN ∷ ws) (Libraries z) c.0) (sym l.0.same) (subst (λ r. IsGrant word (KeywordWord word ∷ SignWord OPEN_PAREN ∷ r) (Libraries (n.0 ∷ l.0.xs)) c.0) (sym (name_first ws n.0 n.1)) is) in
      let named : IsGrant word (KeywordWord word ∷ SignWord OPEN_PAREN ∷ ws) (Libraries x.0.0) x.0.1 = subst (λ (z : List (List ℕ) × List Word). IsGrant word (KeywordWord word ∷ SignWord OPEN_PAREN ∷ ws) (Libraries z.0) z.1) q at in
      subst (λ (z : Granted). IsGrant word (KeywordWord word ∷ SignWord OPEN_PAREN ∷ ws) z.0 z.1) (some_is (Libraries x.0.0, x.0.1) y x.2) named
]

annotation_sound : (word : ℕ) (ws : List Word) (y : Granted) → annotation_of word ws ≡ Some y → IsGrant word ws y.0 y.1
annotation_sound word ws y e = elim (if_some (has_keyword word ws) _ _ y e) [
  | inl p ↦
      let a = bind_some (after_sign OPEN_PAREN (tail ws)) grant_of y p.1 in
      let at : ws ≡ KeywordWord word ∷ SignWord OPEN_PAREN ∷ a.0 = keyword_first word ws p.0 ∙ ap (λ l. KeywordWord word ∷ l) (behind_sign OPEN_PAREN (tail ws) a.0 a.1) in
      subst (λ l. IsGrant word l y.0 y.1) (sym at) (grant_sound word a.0 y a.2)
  | inr p ↦ subst (λ (z : Granted). IsGrant word ws z.0 z.1) (some_is (Private, ws) y p.1) no_grant
]

abbrev Initial : Type 0
Initial = Init × List Word

first_constant_sound : (ws : List Word) (i : Init) → first_constant ws ≡ Some i → IsInitial (SignWord ASSIGN ∷ ws) i (tail ws)
first_constant_sound [] i e = absurd cc
first_constant_sound (NumberWord value ty ∷ a) i e = subst (λ z. IsInitial (SignWord ASSIGN ∷ NumberWord value ty ∷ a) z a) (some_is (Number value) i e) positive
first_constant_sound (CharWord byte ∷ a) i e = subst (λ z. IsInitial (SignWord ASSIGN ∷ CharWord byte ∷ a) z a) (some_is (Number byte) i e) byte_value
first_constant_sound (TextWord bytes ∷ a) i e = subst (λ z. IsInitial (SignWord ASSIGN ∷ TextWord bytes ∷ a) z a) (some_is (Text bytes) i e) text_value
first_constant_sound (NameWord bytes ∷ a) i e = absurd cc
first_constant_sound (KeywordWord k ∷ a) i e = absurd cc
first_constant_sound (SignWord s ∷ a) i e = absurd cc

constant_value_sound : (ws : List Word) (y : Initial) → constant_value_of ws ≡ Some y → IsInitial (SignWord ASSIGN ∷ ws) y.0 y.1
constant_value_sound ws y e = elim (if_some (has_sign MINUS ws) _ _ y e) [
  | inl p ↦
      let n = bind_some (first_number (tail ws)) _ y p.1 in
      let f = number_first (tail ws) n.0 n.1 in
      let at : ws ≡ SignWord MINUS ∷ NumberWord n.0 f.0 ∷ tail (tail ws) = sign_first MINUS ws p.0 ∙ ap (λ l. SignWord MINUS ∷ l) f.1 in
      subst (λ (z : Initial). IsInitial (SignWord ASSIGN ∷ ws) z.0 z.1) (some_is (Number (negated n.0), tail (tail ws)) y n.2) (subst (λ l. IsInitial (SignWord ASSIGN ∷ l) (Number (negated n.0)) (tail (tail ws))) (sym at) negative)
  | inr p ↦
      let i = bind_some (first_constant ws) _ y p.1 in
      subst (λ (z : Initial). IsInitial (SignWord ASSIGN ∷ ws) z.0 z.1) (some_is (i.0, tail ws) y i.2) (first_constant_sound ws i.0 i.1)
]

initial_sound : (ws : List Word) (y : Initial) → initial_of ws ≡ Some y → IsInitial ws y.0 y.1
initial_sound ws y e = elim (if_some (has_sign ASSIGN ws) _ _ y e) [
  | inl p ↦ subst (λ l. IsInitial l y.0 y.1) (sym (sign_first ASSIGN ws p.0)) (constant_value_sound (tail ws) y p.1)
  | inr p ↦ subst (λ (z : Initial). IsInitial ws z.0 z.1) (some_is (Zero, ws) y p.1) no_initial
]

abbrev Found : Type 0
Found = DeclTree × List Word

global_sound : (vs a b ws : List Word) (g r : Grant) (n : ℕ) (ty : TypeTree) (left : ℕ) (name : List ℕ) (y : Found) → IsGrant SHARED vs g a → IsGrant READ a r b → IsPointerType n b ty (NameWord name ∷ ws) → n + left ≡ nesting → global_of g r ty left name ws ≡ Some y → IsDeclaration vs y.0 y.1
global_sound vs a b ws g r n ty left name y grant readers pointer q e =
    let d = bind_some (dims_of left ty ws) _ y e in
    let i = bind_some (initial_of d.0.1) _ y d.2 in
    let c = bind_some (after_sign SEMICOLON i.0.1) _ y i.2 in
    let m = dims_in left ty ws d.0.0 d.0.1 d.1 in
    let le : n + m.0 ≤ nesting = omega (arith, q, m.1) in
    let value : IsInitial d.0.1 i.0.0 (SignWord SEMICOLON ∷ c.0) = subst (λ l. IsInitial d.0.1 i.0.0 l) (behind_sign SEMICOLON i.0.1 c.0 c.1) (initial_sound d.0.1 i.0 i.1) in
    subst (λ (z : Found). IsDeclaration vs z.0 z.1) (some_is (GlobalTree g r d.0.0 name i.0.0, c.0) y c.2) (global grant readers (declarator pointer m.2 le) value)

abbrev Param : Type 0
Param = ParamTree × List Word

parameter_sound : (ws : List Word) (y : Param) → parameter_of ws ≡ Some y → IsParameter ws y.0 y.1
parameter_sound ws y e =
    let t = bind_some (pointer_type_of (behind_shared ws)) _ y e in
    let n = bind_some (first_name t.0.2) _ y t.2 in
    let p = pointer_sound (behind_shared ws) t.0.0 t.0.1 t.0.2 t.1 in
    let named : IsPointerType p.0 (behind_shared ws) t.0.0 (NameWord n.0 ∷ tail t.0.2) = subst (λ l. IsPointerType p.0 (behind_shared ws) t.0.0 l) (name_first t.0.2 n.0 n.1) p.2 in
    let le : p.0 ≤ nesting = omega (arith, p.1) in
    subst (λ (z : Param). IsParameter ws z.0 z.1) (some_is (record { shared = has_keyword SHARED ws; ty = t.0.0; name = n.0 }, tail t.0.2) y n.2) (parameter (shared_is ws) named le)

parameter_turn_sound : TakesOne IsNextParameter parameter_turn
parameter_turn_sound all y here rest e =
    let p = by_comma (has_sign COMMA here) refl e in
    let x = bind_some (parameter_of (tail here)) (longer all) (y, rest) p.1 in
    let q : (all ++ x.0.0 ∷ [], x.0.1) ≡ (y, rest) = some_is (all ++ x.0.0 ∷ [], x.0.1) (y, rest) x.2 in
    let is : IsNextParameter here x.0.0 x.0.1 = subst (λ l. IsNextParameter l x.0.0 x.0.1) (sym (sign_first COMMA here p.0)) (next_parameter (parameter_sound (tail here) x.0 x.1)) in
    (x.0.0, sym (ap (λ (z : List ParamTree × List Word). z.0) q), subst (λ l. IsNextParameter here x.0.0 l) (ap (λ (z : List ParamTree × List Word). z.1) q) is)
  where
    by_comma : (c : Bool) → has_sign COMMA here ≡ c → (if c then Tries (parameter_of (tail here) >>= longer all) else Ends) ≡ Tries (Some (y, rest)) → (has_sign COMMA here ≡ true) × ((parameter_of (tail here) >>= longer all) ≡ Some (y, rest))
    by_comma true q f = (q, cc)
    by_comma false q f = absurd cc

abbrev Params : Type 0
Params = List ParamTree × List Word

parameters_sound : (ws : List Word) (y : Params) → parameters_of ws ≡ Some y → IsParameters ws y.0 (SignWord CLOSE_PAREN ∷ y.1)
parameters_sound ws y e = elim (if_some (has_sign CLOSE_PAREN ws) _ _ y e) [
  | inl p ↦
      let none : IsParameters ws [] (SignWord CLOSE_PAREN ∷ tail ws) = subst (λ l. IsParameters ws [] l) (sign_first CLOSE_PAREN ws p.0) no_parameter in
      subst (λ (z : Params). IsParameters ws z.0 (SignWord CLOSE_PAREN ∷ z.1)) (some_is ([], tail ws) y p.1) none
  | inr p ↦ elim (if_some (has_keyword VOID ws && has_sign CLOSE_PAREN (tail ws)) _ _ y p.1) [
    | inl p ↦
        let both = and_true (has_keyword VOID ws) (has_sign CLOSE_PAREN (tail ws)) p.0 in
        let at : ws ≡ KeywordWord VOID ∷ SignWord CLOSE_PAREN ∷ tail (tail ws) = keyword_first VOID ws both.0 ∙ ap (λ l. KeywordWord VOID ∷ l) (sign_first CLOSE_PAREN (tail ws) both.1) in
        let none : IsParameters ws [] (SignWord CLOSE_PAREN ∷ tail (tail ws)) = subst (λ l. IsParameters l [] (SignWord CLOSE_PAREN ∷ tail (tail ws))) (sym at) void_alone in
        subst (λ (z : Params). IsParameters ws z.0 (SignWord CLOSE_PAREN ∷ z.1)) (some_is ([], tail (tail ws)) y p.1) none
    | inr p ↦
        let x = bind_some (parameter_of ws) _ y p.1 in
        let t = bind_some (turns parameter_turn (length x.0.1 + 1) (x.0.0 ∷ []) x.0.1) _ y x.2 in
        let c = bind_some (after_sign CLOSE_PAREN t.0.1) _ y t.2 in
        let l = list_sound ParamTree IsNextParameter parameter_turn parameter_turn_sound (x.0.0 ∷ []) x.0.1 (length x.0.1 + 1) t.0.0 t.0.1 t.1 in
        let others : IsList IsNextParameter x.0.1 l.0.xs (SignWord CLOSE_PAREN ∷ c.0) = subst (λ r. IsList IsNextParameter x.0.1 l.0.xs r) (behind_sign CLOSE_PAREN t.0.1 c.0 c.1) l.0.is in
        let is : IsParameters ws t.0.0 (SignWord CLOSE_PAREN ∷ c.0) = subst (λ z. IsParameters ws z (SignWord CLOSE_PAREN ∷ c.0)) (sym l.0.same) (parameters (parameter_sound ws x.0 x.1) others) in
        subst (λ (z : Params). IsParameters ws z.0 (SignWord CLOSE_PAREN ∷ z.1)) (some_is (t.0.0, c.0) y c.2) is
  ]
]

function_sound : (vs a ws : List Word) (en : Bool) (n : ℕ) (ty : TypeTree) (name : List ℕ) (y : Found) → IsEntry vs en a → IsPointerType n a ty (NameWord name ∷ SignWord OPEN_PAREN ∷ ws) → n ≤ nesting → function_of en ty name ws ≡ Some y → IsDeclaration vs y.0 y.1
function_sound vs a ws en n ty name y is pointer le e =
    let p = bind_some (parameters_of ws) _ y e in
    let o = bind_some (after_sign OPEN_BRACE p.0.1) _ y p.2 in
    let s = bind_some (statements_by (statement_at nesting) o.0) _ y o.2 in
    let ps : IsParameters ws p.0.0 (SignWord CLOSE_PAREN ∷ SignWord OPEN_BRACE ∷ o.0) = subst (λ l. IsParameters ws p.0.0 (SignWord CLOSE_PAREN ∷ l)) (behind_sign OPEN_BRACE p.0.1 o.0 o.1) (parameters_sound ws p.0 p.1) in
    let body = statements_sound nesting o.0 s.0 s.1 in
    subst (λ (z : Found). IsDeclaration vs z.0 z.1) (some_is (FunctionTree en ty name p.0.0 s.0.0, s.0.1) y s.2) (function is pointer le ps body.is body.low)

-- the words that a declaration begins with
data DeclarationIs : List Word → DeclarationFront → Type 0 where
  struct_front : {a : List Word} → has_sign OPEN_BRACE (tail a) ≡ true → DeclarationIs (KeywordWord STRUCT ∷ a) front.Struct
  granted_front : {ws : List Word} → DeclarationIs ws front.Granted
  entry_front : {a : List Word} → DeclarationIs (KeywordWord ENTRY ∷ a) front.Entry
  plain_front : {ws : List Word} → DeclarationIs ws front.Plain

keyword_front : (k : ℕ) (a : List Word) → DeclarationIs (KeywordWord k ∷ a) (fronts.declaration_by (KeywordWord k ∷ a) (Some k))
keyword_front k a =
    let P : DeclarationFront → Type 0 = DeclarationIs (KeywordWord k ∷ a) in
    chosen P (k == STRUCT && has_sign OPEN_BRACE (tail a)) _ _ (λ e. let both = and_true (k == STRUCT) (has_sign OPEN_BRACE (tail a)) e in subst (λ j. DeclarationIs (KeywordWord j ∷ a) front.Struct) (sym (eqb-true k STRUCT both.0)) (struct_front both.1)) (λ _.
    chosen P (k == SHARED || k == READ) _ _ (λ _. granted_front) (λ _.
    chosen P (k == ENTRY) _ _ (λ e. subst (λ j. DeclarationIs (KeywordWord j ∷ a) front.Entry) (sym (eqb-true k ENTRY e)) entry_front) (λ _. plain_front)))

declaration_view : (ws : List Word) → DeclarationIs ws (declaration_front ws)
declaration_view [] = plain_front
declaration_view (KeywordWord k ∷ a) = keyword_front k a
declaration_view (SignWord s ∷ a) = plain_front
declaration_view (NameWord bytes ∷ a) = plain_front
declaration_view (NumberWord value ty ∷ a) = plain_front
declaration_view (CharWord byte ∷ a) = plain_front
declaration_view (TextWord bytes ∷ a) = plain_front

granted_sound : (ws : List Word) (y : Found) → granted_of ws ≡ Some y → IsDeclaration ws y.0 y.1
granted_sound ws y e =
    let g = bind_some (annotation_of SHARED ws) _ y e in
    let r = bind_some (annotation_of READ g.0.1) _ y g.2 in
    let t = bind_some (pointer_type_of r.0.1) _ y r.2 in
    let n = bind_some (first_name t.0.2) _ y t.2 in
    let p = pointer_sound r.0.1 t.0.0 t.0.1 t.0.2 t.1 in
    let named : IsPointerType p.0 r.0.1 t.0.0 (NameWord n.0 ∷ tail t.0.2) = subst (λ l. IsPointerType p.0 r.0.1 t.0.0 l) (name_first t.0.2 n.0 n.1) p.2 in
    global_sound ws g.0.1 r.0.1 (tail t.0.2) g.0.0 r.0.0 p.0 t.0.0 t.0.1 n.0 y (annotation_sound SHARED ws g.0 g.1) (annotation_sound READ g.0.1 r.0 r.1) named p.1 n.2

entry_sound : (ws : List Word) (y : Found) → entry_of ws ≡ Some y → IsDeclaration (KeywordWord ENTRY ∷ ws) y.0 y.1
entry_sound ws y e =
    let t = bind_some (pointer_type_of ws) _ y e in
    let n = bind_some (first_name t.0.2) _ y t.2 in
    let o = bind_some (after_sign OPEN_PAREN (tail t.0.2)) _ y n.2 in
    let p = pointer_sound ws t.0.0 t.0.1 t.0.2 t.1 in
    let at : t.0.2 ≡ NameWord n.0 ∷ SignWord OPEN_PAREN ∷ o.0 = name_first t.0.2 n.0 n.1 ∙ ap (λ l. NameWord n.0 ∷ l) (behind_sign OPEN_PAREN (tail t.0.2) o.0 o.1) in
    let le : p.0 ≤ nesting = omega (arith, p.1) in
    function_sound (KeywordWord ENTRY ∷ ws) ws o.0 true p.0 t.0.0 n.0 y entry (subst (λ l. IsPointerType p.0 ws t.0.0 l) at p.2) le o.2

plain_sound : (ws : List Word) (y : Found) → plain_of ws ≡ Some y → IsDeclaration ws y.0 y.1
plain_sound ws y e =
    let t = bind_some (pointer_type_of ws) _ y e in
    let n = bind_some (first_name t.0.2) _ y t.2 in
    let p = pointer_sound ws t.0.0 t.0.1 t.0.2 t.1 in
    let named : IsPointerType p.0 ws t.0.0 (NameWord n.0 ∷ tail t.0.2) = subst (λ l. IsPointerType p.0 ws t.0.0 l) (name_first t.0.2 n.0 n.1) p.2 in
    let le : p.0 ≤ nesting = omega (arith, p.1) in
    elim (if_some (has_sign OPEN_PAREN (tail t.0.2)) _ _ y n.2) [
      | inl o ↦ function_sound ws ws (tail (tail t.0.2)) false p.0 t.0.0 n.0 y no_entry (subst (λ l. IsPointerType p.0 ws t.0.0 (NameWord n.0 ∷ l)) (sign_first OPEN_PAREN (tail t.0.2) o.0) named) le o.1
      | inr o ↦ global_sound ws ws ws (tail t.0.2) Private Private p.0 t.0.0 t.0.1 n.0 y no_grant no_grant named p.1 o.1
    ]

by_front : (ws : List Word) (f : DeclarationFront) → DeclarationIs ws f → (y : Found) → declaration_by ws f ≡ Some y → IsDeclaration ws y.0 y.1
by_front _ _ (struct_front {a} brace) y e = structure_sound a y brace e
by_front _ _ (granted_front {ws}) y e = granted_sound ws y e
by_front _ _ (entry_front {a}) y e = entry_sound a y e
by_front _ _ (plain_front {ws}) y e = plain_sound ws y e

pub declaration_sound : (ws : List Word) (y : DeclTree × List Word) → declaration_of ws ≡ Some y → IsDeclaration ws y.0 y.1
declaration_sound ws y e = by_front ws (declaration_front ws) (declaration_view ws) y e
