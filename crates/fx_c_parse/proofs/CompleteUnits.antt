-- Declarations and files of the grammar are read, and where there is none, none is read.
use Rattle.std.proofs.Common.{◌≡◌, ℕ, zero, suc, ◌+◌, ◌-◌, ◌<◌, ◌≤◌, Bool, false, List, [], ◌∷◌, ◌++◌, length, Option, Some, None, Result, Ok, Err, refl, sym, ap, ◌∙◌, subst, append_assoc, arith}
use Rattle.std.specs.Prelude.{if◌then◌else◌, ◌==◌, ◌&&◌}
use Rattle.std.proofs.lemmas.Bool.{eq-eqb}
use Rattle.std.proofs.lemmas.List.{append-nil, length-append}
use Rattle.fx_c_ast.specs.declared.parsed.Grant.{Grant}
use Rattle.fx_c_ast.specs.declared.parsed.Grant.TheVariants.{Private, Libraries, All}
use Rattle.fx_c_ast.specs.declared.parsed.Init.{Init}
use Rattle.fx_c_ast.specs.ParsedTrees.{TypeTree, StmtTrees, NoStmts, ParamTree, DeclTree, StructTree, GlobalTree, FunctionTree}
use Rattle.fx_c_lex.specs.declared.sign.TheConstants.{OPEN_PAREN, CLOSE_PAREN, OPEN_BRACE, CLOSE_BRACE, OPEN_BRACKET, SEMICOLON, ASSIGN, STAR}
use Rattle.fx_c_lex.specs.declared.keyword.TheConstants.{SHARED, READ, STRUCT, VOID}
use Rattle.fx_c_parse.specs.declared.front.DeclarationFront.TheVariants as front
use Rattle.fx_c_parse.specs.Words.{Word, NameWord, KeywordWord, SignWord, tail, has_sign, has_keyword}
use Rattle.fx_c_parse.specs.Reading.{◌>>=◌, Turn, Ends, Tries, turned, turns}
use Rattle.fx_c_parse.specs.Fronts.{declaration_front}
use Rattle.fx_c_parse.specs.Types.{nesting, pointer_type_of, dims_of}
use Rattle.fx_c_parse.specs.Statements.{declarator_of, statement_turn, statement_at, statements_by, behind_shared}
use Rattle.fx_c_parse.specs.Declarations.{member_of, member_turn, members_of, name_turn, names_of, annotation_of, initial_of, global_of, granted_of, parameter_of, parameter_turn, parameters_of, function_of, declaration_by, declaration_of, unit_step, units, unit_of}
use Rattle.fx_c_parse.specs.Grammar.{char_word, short_word, int_word, long_word, IsBase, void_base, signed_base, unsigned_alone, unsigned_integer, struct_base, IsStars, no_star, one_star, IsDims, no_dim, one_dim, IsPointerType, pointer_type}
use Rattle.fx_c_parse.specs.Phrases.{IsDeclarator, declarator, IsShared, unshared, shared, IsStatements}
use Rattle.fx_c_parse.specs.Units.{IsList, no_item, next_item, IsMember, struct_member, IsNextName, next_name, IsGrant, no_grant, grant_all, grant_some, IsInitial, no_initial, negative, positive, byte_value, text_value, IsEntry, no_entry, entry, IsParameter, parameter, IsNextParameter, next_parameter, IsParameters, no_parameter, void_alone, parameters, IsDeclaration, structure, global, function, IsUnit, StopsBehind}
use Rattle.fx_c_parse.proofs.Growth.{pointer_shorter}
use Rattle.fx_c_parse.proofs.CompleteExpressions.{if_no, if_yes, bind_is, pointer_complete, dims_complete}
use Rattle.fx_c_parse.proofs.CompleteStatements.{declarator_shorter, shared_shorter, statements_shorter, declarator_complete, shared_complete, pointer_unshared, statements_complete}
use Rattle.fx_c_parse.proofs.SoundUnits.{declaration_sound}

-- growth

list_shorter : {A : Type 0} → (Is : List Word → A → List Word → Type 0) → ((ws : List Word) (x : A) (rest : List Word) → Is ws x rest → length rest < length ws) → (ws : List Word) (xs : List A) (rest : List Word) → IsList Is ws xs rest → length rest ≤ length ws
list_shorter Is one _ _ _ no_item = omega arith
list_shorter Is one _ _ _ (next_item {ws} {a} {x} {xs} {rest} first others) = omega (arith, one ws x a first, list_shorter Is one a xs rest others)

member_shorter : (ws : List Word) (m : TypeTree × List ℕ) (rest : List Word) → IsMember ws m rest → length rest < length ws
member_shorter _ _ _ (struct_member {ws} {t} {name} {rest} is) = omega (arith, declarator_shorter ws t name _ is)

name_shorter : (ws : List Word) (n : List ℕ) (rest : List Word) → IsNextName ws n rest → length rest < length ws
name_shorter _ _ _ next_name = omega arith

grant_shorter : (word : ℕ) (ws : List Word) (g : Grant) (rest : List Word) → IsGrant word ws g rest → length rest ≤ length ws
grant_shorter _ _ _ _ no_grant = omega arith
grant_shorter _ _ _ _ grant_all = omega arith
grant_shorter _ _ _ _ (grant_some {word} {name} {names} {a} {rest} is) = omega (arith, list_shorter IsNextName name_shorter a names _ is)

initial_shorter : (ws : List Word) (i : Init) (rest : List Word) → IsInitial ws i rest → length rest ≤ length ws
initial_shorter _ _ _ no_initial = omega arith
initial_shorter _ _ _ negative = omega arith
initial_shorter _ _ _ positive = omega arith
initial_shorter _ _ _ byte_value = omega arith
initial_shorter _ _ _ text_value = omega arith

entry_shorter : (ws : List Word) (e : Bool) (rest : List Word) → IsEntry ws e rest → length rest ≤ length ws
entry_shorter _ _ _ no_entry = omega arith
entry_shorter _ _ _ entry = omega arith

parameter_shorter : (ws : List Word) (p : ParamTree) (rest : List Word) → IsParameter ws p rest → length rest < length ws
parameter_shorter _ _ _ (parameter {n} {ws} {a} {s} {t} {name} {rest} sh pointer le) = omega (arith, shared_shorter ws s a sh, pointer_shorter n a t _ pointer)

next_parameter_shorter : (ws : List Word) (p : ParamTree) (rest : List Word) → IsNextParameter ws p rest → length rest < length ws
next_parameter_shorter _ _ _ (next_parameter {a} {p} {rest} is) = omega (arith, parameter_shorter a p rest is)

parameters_shorter : (ws : List Word) (ps : List ParamTree) (rest : List Word) → IsParameters ws ps rest → length rest ≤ length ws
parameters_shorter _ _ _ no_parameter = omega arith
parameters_shorter _ _ _ void_alone = omega arith
parameters_shorter _ _ _ (parameters {ws} {a} {p} {ps} {rest} first others) = omega (arith, parameter_shorter ws p a first, list_shorter IsNextParameter next_parameter_shorter a ps rest others)

declaration_shorter : (ws : List Word) (d : DeclTree) (rest : List Word) → IsDeclaration ws d rest → length rest < length ws
declaration_shorter _ _ _ (structure {a} {b} {name} {m} {ms} {rest} first others) = omega (arith, member_shorter a m b first, list_shorter IsMember member_shorter b ms _ others)
declaration_shorter _ _ _ (global {ws} {a} {b} {c} {g} {r} {t} {name} {i} {rest} grant readers d value) = omega (arith, grant_shorter SHARED ws g a grant, grant_shorter READ a r b readers, declarator_shorter b t name c d, initial_shorter c i _ value)
declaration_shorter _ _ _ (function {n} {h} {ws} {a} {b} {c} {e} {t} {name} {ps} {ss} {rest} en pointer le params body low) = omega (arith, entry_shorter ws e a en, pointer_shorter n a t _ pointer, parameters_shorter b ps _ params, statements_shorter c ss h _ body)

-- first words

stars_sign : (s n : ℕ) (ws : List Word) (t u : TypeTree) (rest : List Word) → IsStars n ws t u rest → (STAR == s) ≡ false → has_sign s rest ≡ false → has_sign s ws ≡ false
stars_sign s _ _ _ _ _ no_star e f = f
stars_sign s _ _ _ _ _ (one_star is) e f = e

dims_sign : (s n : ℕ) (ws : List Word) (t u : TypeTree) (rest : List Word) → IsDims n ws t u rest → (OPEN_BRACKET == s) ≡ false → has_sign s rest ≡ false → has_sign s ws ≡ false
dims_sign s _ _ _ _ _ no_dim e f = f
dims_sign s _ _ _ _ _ (one_dim lt is) e f = e

-- what a type with a name behind it begins with
record IsTypeFirst (ws : List Word) : Type 0 where
  plain : declaration_front ws ≡ front.Plain
  no_shared : has_keyword SHARED ws ≡ false
  no_read : has_keyword READ ws ≡ false
  no_close : has_sign CLOSE_PAREN ws ≡ false
  no_brace : has_sign CLOSE_BRACE ws ≡ false
  no_void : (has_keyword VOID ws && has_sign CLOSE_PAREN (tail ws)) ≡ false

base_first : (n : ℕ) (ws a : List Word) (t u : TypeTree) (name : List ℕ) (behind : List Word) → IsBase ws t a → IsStars n a t u (NameWord name ∷ behind) → IsTypeFirst ws
base_first n _ _ _ u name behind (void_base {rest}) stars = record { plain = refl; no_shared = refl; no_read = refl; no_close = refl; no_brace = refl; no_void = stars_sign CLOSE_PAREN n rest _ u (NameWord name ∷ behind) stars refl refl }
base_first _ _ _ _ _ _ _ (signed_base char_word) stars = record { plain = refl; no_shared = refl; no_read = refl; no_close = refl; no_brace = refl; no_void = refl }
base_first _ _ _ _ _ _ _ (signed_base short_word) stars = record { plain = refl; no_shared = refl; no_read = refl; no_close = refl; no_brace = refl; no_void = refl }
base_first _ _ _ _ _ _ _ (signed_base int_word) stars = record { plain = refl; no_shared = refl; no_read = refl; no_close = refl; no_brace = refl; no_void = refl }
base_first _ _ _ _ _ _ _ (signed_base long_word) stars = record { plain = refl; no_shared = refl; no_read = refl; no_close = refl; no_brace = refl; no_void = refl }
base_first _ _ _ _ _ _ _ unsigned_alone stars = record { plain = refl; no_shared = refl; no_read = refl; no_close = refl; no_brace = refl; no_void = refl }
base_first _ _ _ _ _ _ _ (unsigned_integer is) stars = record { plain = refl; no_shared = refl; no_read = refl; no_close = refl; no_brace = refl; no_void = refl }
base_first n _ _ _ u name behind (struct_base {tag} {rest}) stars = record { plain = ap (λ (c : Bool). if c then front.Struct else front.Plain) (stars_sign OPEN_BRACE n rest _ u (NameWord name ∷ behind) stars refl refl); no_shared = refl; no_read = refl; no_close = refl; no_brace = refl; no_void = refl }

pointer_first : (n : ℕ) (ws : List Word) (t : TypeTree) (name : List ℕ) (end : List Word) → IsPointerType n ws t end → (behind : List Word) → end ≡ NameWord name ∷ behind → IsTypeFirst ws
pointer_first _ _ _ name _ (pointer_type {n} {ws} {a} {t} {u} {rest} base stars) behind q = base_first n ws a t u name behind base (subst (λ l. IsStars n a t u l) q stars)

declarator_first : (ws : List Word) (t : TypeTree) (name : List ℕ) (rest : List Word) → IsDeclarator ws t name rest → IsTypeFirst ws
declarator_first _ _ _ _ (declarator {n} {m} {ws} {a} {t} {u} {name} {rest} pointer dims le) = pointer_first n ws t name _ pointer a refl

member_first : (ws : List Word) (m : TypeTree × List ℕ) (rest : List Word) → IsMember ws m rest → has_sign CLOSE_BRACE ws ≡ false
member_first _ _ _ (struct_member {ws} {t} {name} {rest} is) = (declarator_first ws t name _ is).no_brace

-- what a parameter does not begin with
parameter_first : (ws : List Word) (p : ParamTree) (rest : List Word) → IsParameter ws p rest → (has_sign CLOSE_PAREN ws ≡ false) × ((has_keyword VOID ws && has_sign CLOSE_PAREN (tail ws)) ≡ false)
parameter_first _ _ _ (parameter {n} {ws} {a} {s} {t} {name} {rest} sh pointer le) = by_shared ws s a sh (pointer_first n a t name _ pointer rest refl)
  where
    by_shared : (ws : List Word) (s : Bool) (a : List Word) → IsShared ws s a → IsTypeFirst a → (has_sign CLOSE_PAREN ws ≡ false) × ((has_keyword VOID ws && has_sign CLOSE_PAREN (tail ws)) ≡ false)
    by_shared _ _ _ unshared f = (f.no_close, f.no_void)
    by_shared _ _ _ shared f = (refl, refl)

-- repetitions

list_complete : {A : Type 0} → (Is : List Word → A → List Word → Type 0) (step : List A → List Word → Turn (List A)) → ((all : List A) (ws : List Word) (x : A) (rest : List Word) → Is ws x rest → step all ws ≡ Tries (Some (all ++ x ∷ [], rest))) → ((ws : List Word) (x : A) (rest : List Word) → Is ws x rest → length rest < length ws) → (ws : List Word) (xs : List A) (rest : List Word) → IsList Is ws xs rest → ((all : List A) → step all rest ≡ Ends) → (all : List A) (n : ℕ) → length ws < n → turns step n all ws ≡ Some (all ++ xs, rest)
list_complete Is step takes shorter _ _ _ no_item ends all zero lt = absurd (omega (arith, lt))
list_complete Is step takes shorter _ _ _ (no_item {rest}) ends all (suc n) lt = ap (turned (turns step n) all rest) (ends all) ∙ ap (λ l. Some (l, rest)) (sym (append-nil all))
list_complete Is step takes shorter _ _ _ (next_item first others) ends all zero lt = absurd (omega (arith, lt))
list_complete Is step takes shorter _ _ _ (next_item {ws} {a} {x} {xs} {rest} first others) ends all (suc n) lt =
    let less : length a < n = omega (arith, lt, shorter ws x a first) in
    ap (turned (turns step n) all ws) (takes all ws x a first) ∙ list_complete Is step takes shorter a xs rest others ends (all ++ x ∷ []) n less ∙ ap (λ l. Some (l, rest)) (append_assoc all (x ∷ []) xs)

-- phrases

member_complete : (ws : List Word) (m : TypeTree × List ℕ) (rest : List Word) → IsMember ws m rest → member_of ws ≡ Some (m, rest)
member_complete _ _ _ (struct_member {ws} {t} {name} {rest} is) = bind_is (declarator_of ws) _ (t, name, SignWord SEMICOLON ∷ rest) _ (declarator_complete ws t name _ is refl) refl

member_turn_complete : (all : List (TypeTree × List ℕ)) (ws : List Word) (m : TypeTree × List ℕ) (rest : List Word) → IsMember ws m rest → member_turn all ws ≡ Tries (Some (all ++ m ∷ [], rest))
member_turn_complete all ws m rest is = if_no (has_sign CLOSE_BRACE ws) _ _ _ (member_first ws m rest is) (ap (λ (r : Option ((TypeTree × List ℕ) × List Word)). Tries (r >>= λ x. Some (all ++ x.0 ∷ [], x.1))) (member_complete ws m rest is))

structure_complete : (a b : List Word) (name : List ℕ) (m : TypeTree × List ℕ) (ms : List (TypeTree × List ℕ)) (rest : List Word) → IsMember a m b → IsList IsMember b ms (SignWord CLOSE_BRACE ∷ SignWord SEMICOLON ∷ rest) → declaration_of (KeywordWord STRUCT ∷ NameWord name ∷ SignWord OPEN_BRACE ∷ a) ≡ Some (StructTree name (m ∷ ms), rest)
structure_complete a b name m ms rest first others =
    let all : turns member_turn (length b + 1) (m ∷ []) b ≡ Some (m ∷ ms, SignWord CLOSE_BRACE ∷ SignWord SEMICOLON ∷ rest) = list_complete IsMember member_turn member_turn_complete member_shorter b ms _ others (λ all. refl) (m ∷ []) (length b + 1) (omega arith) in
    bind_is (members_of a) _ (m ∷ ms, SignWord SEMICOLON ∷ rest) _
    (bind_is (member_of a) _ (m, b) _ (member_complete a m b first)
    (bind_is (turns member_turn (length b + 1) (m ∷ []) b) _ (m ∷ ms, SignWord CLOSE_BRACE ∷ SignWord SEMICOLON ∷ rest) _ all refl)) refl

name_turn_complete : (all : List (List ℕ)) (ws : List Word) (n : List ℕ) (rest : List Word) → IsNextName ws n rest → name_turn all ws ≡ Tries (Some (all ++ n ∷ [], rest))
name_turn_complete all _ _ _ next_name = refl

grant_complete : (word : ℕ) (ws : List Word) (g : Grant) (rest : List Word) → IsGrant word ws g rest → has_keyword word rest ≡ false → annotation_of word ws ≡ Some (g, rest)
grant_complete _ _ _ _ (no_grant {word} {rest}) e = if_no (has_keyword word rest) _ _ _ e refl
grant_complete _ _ _ _ (grant_all {word} {rest}) e = if_yes (word == word) _ _ _ (eq-eqb word word refl) refl
grant_complete _ _ _ _ (grant_some {word} {name} {names} {a} {rest} is) e =
    let all : turns name_turn (length a + 1) (name ∷ []) a ≡ Some (name ∷ names, SignWord CLOSE_PAREN ∷ rest) = list_complete IsNextName name_turn name_turn_complete name_shorter a names _ is (λ all. refl) (name ∷ []) (length a + 1) (omega arith) in
    if_yes (word == word) _ _ _ (eq-eqb word word refl) (bind_is (names_of (NameWord name ∷ a)) _ (name ∷ names, rest) _ (bind_is (turns name_turn (length a + 1) (name ∷ []) a) _ (name ∷ names, SignWord CLOSE_PAREN ∷ rest) _ all refl) refl)

initial_complete : (ws : List Word) (i : Init) (rest : List Word) → IsInitial ws i rest → has_sign ASSIGN rest ≡ false → initial_of ws ≡ Some (i, rest)
initial_complete _ _ _ (no_initial {rest}) e = if_no (has_sign ASSIGN rest) _ _ _ e refl
initial_complete _ _ _ negative e = refl
initial_complete _ _ _ positive e = refl
initial_complete _ _ _ byte_value e = refl
initial_complete _ _ _ text_value e = refl

initial_sign : (s : ℕ) (ws : List Word) (i : Init) (rest : List Word) → IsInitial ws i rest → (ASSIGN == s) ≡ false → has_sign s rest ≡ false → has_sign s ws ≡ false
initial_sign s _ _ _ no_initial e f = f
initial_sign s _ _ _ negative e f = e
initial_sign s _ _ _ positive e f = e
initial_sign s _ _ _ byte_value e f = e
initial_sign s _ _ _ text_value e f = e

-- behind the name of a global
global_complete : (g r : Grant) (m left : ℕ) (a c : List Word) (t u : TypeTree) (name : List ℕ) (i : Init) (rest : List Word) → IsDims m a t u c → m ≤ left → IsInitial c i (SignWord SEMICOLON ∷ rest) → global_of g r t left name a ≡ Some (GlobalTree g r u name i, rest)
global_complete g r m left a c t u name i rest dims le value =
    bind_is (dims_of left t a) _ (u, c) _ (dims_complete m a t u c dims (initial_sign OPEN_BRACKET c i _ value refl refl) left le)
    (bind_is (initial_of c) _ (i, SignWord SEMICOLON ∷ rest) _ (initial_complete c i _ value refl) refl)

-- a global with an annotation, and one without
abbrev Global : List Word → Grant → Grant → TypeTree → List ℕ → Init → List Word → Type 0
Global ws g r t name i rest = declaration_of ws ≡ Some (GlobalTree g r t name i, rest)

granted_read : (ws a b c : List Word) (g r : Grant) (t : TypeTree) (name : List ℕ) (i : Init) (rest : List Word) → annotation_of SHARED ws ≡ Some (g, a) → annotation_of READ a ≡ Some (r, b) → IsDeclarator b t name c → IsInitial c i (SignWord SEMICOLON ∷ rest) → granted_of ws ≡ Some (GlobalTree g r t name i, rest)
granted_read vs b _ _ g r _ _ i end e f (declarator {n} {m} {ws} {a} {t} {u} {name} {rest} pointer dims le) value =
    bind_is (annotation_of SHARED vs) _ (g, b) _ e (bind_is (annotation_of READ b) _ (r, ws) _ f
    (bind_is (pointer_type_of ws) _ (t, nesting - n, NameWord name ∷ a) _ (pointer_complete n ws t _ pointer refl refl (omega (arith, le)))
    (global_complete g r m (nesting - n) a rest t u name i end dims (omega (arith, le)) value)))

plain_read : (b c : List Word) (t : TypeTree) (name : List ℕ) (i : Init) (rest : List Word) → IsDeclarator b t name c → IsInitial c i (SignWord SEMICOLON ∷ rest) → Global b Private Private t name i rest
plain_read _ _ _ _ i end (declarator {n} {m} {ws} {a} {t} {u} {name} {rest} pointer dims le) value =
    ap (declaration_by ws) (pointer_first n ws t name _ pointer a refl).plain
    ∙ bind_is (pointer_type_of ws) _ (t, nesting - n, NameWord name ∷ a) _ (pointer_complete n ws t _ pointer refl refl (omega (arith, le)))
    (if_no (has_sign OPEN_PAREN a) _ _ _ (dims_sign OPEN_PAREN m a t u rest dims refl (initial_sign OPEN_PAREN rest i _ value refl refl))
    (global_complete Private Private m (nesting - n) a rest t u name i end dims (omega (arith, le)) value))

grant_keyword : (word k : ℕ) (ws : List Word) (g : Grant) (rest : List Word) → IsGrant word ws g rest → (word == k) ≡ false → has_keyword k rest ≡ false → has_keyword k ws ≡ false
grant_keyword _ k _ _ _ no_grant e f = f
grant_keyword _ k _ _ _ grant_all e f = e
grant_keyword _ k _ _ _ (grant_some is) e f = e

-- by the first annotation that stands there
readers_read : (a b c : List Word) (r : Grant) (t : TypeTree) (name : List ℕ) (i : Init) (rest : List Word) → IsGrant READ a r b → IsDeclarator b t name c → IsInitial c i (SignWord SEMICOLON ∷ rest) → annotation_of SHARED a ≡ Some (Private, a) → annotation_of READ a ≡ Some (r, b) → Global a Private r t name i rest
readers_read _ _ c _ t name i end (no_grant {word} {rest}) d value e f = plain_read rest c t name i end d value
readers_read _ _ c _ t name i end (grant_all {word} {rest}) d value e f = granted_read (KeywordWord READ ∷ SignWord OPEN_PAREN ∷ SignWord STAR ∷ SignWord CLOSE_PAREN ∷ rest) _ rest c Private All t name i end e f d value
readers_read _ _ c _ t global_name i end (grant_some {word} {name} {names} {a} {rest} is) d value e f = granted_read (KeywordWord READ ∷ SignWord OPEN_PAREN ∷ NameWord name ∷ a) _ rest c Private (Libraries (name ∷ names)) t global_name i end e f d value

shared_read : (ws a b c : List Word) (g r : Grant) (t : TypeTree) (name : List ℕ) (i : Init) (rest : List Word) → IsGrant SHARED ws g a → IsGrant READ a r b → IsDeclarator b t name c → IsInitial c i (SignWord SEMICOLON ∷ rest) → annotation_of SHARED ws ≡ Some (g, a) → annotation_of READ a ≡ Some (r, b) → Global ws g r t name i rest
shared_read _ _ b c _ r t name i end (no_grant {word} {rest}) readers d value e f = readers_read rest b c r t name i end readers d value e f
shared_read _ _ b c _ r t name i end (grant_all {word} {rest}) readers d value e f = granted_read (KeywordWord SHARED ∷ SignWord OPEN_PAREN ∷ SignWord STAR ∷ SignWord CLOSE_PAREN ∷ rest) rest b c All r t name i end e f d value
shared_read _ _ b c _ r t global_name i end (grant_some {word} {name} {names} {a} {rest} is) readers d value e f = granted_read (KeywordWord SHARED ∷ SignWord OPEN_PAREN ∷ NameWord name ∷ a) rest b c (Libraries (name ∷ names)) r t global_name i end e f d value

parameter_complete : (ws : List Word) (p : ParamTree) (rest : List Word) → IsParameter ws p rest → parameter_of ws ≡ Some (p, rest)
parameter_complete _ _ _ (parameter {n} {ws} {a} {s} {t} {name} {rest} sh pointer le) =
    let is = shared_complete ws s a sh (pointer_unshared n a t _ pointer) in
    bind_is (pointer_type_of (behind_shared ws)) _ (t, nesting - n, NameWord name ∷ rest) _ (ap pointer_type_of is.1 ∙ pointer_complete n a t _ pointer refl refl le)
    (ap (λ z. Some (record { shared = z; ty = t; name = name }, rest)) is.0)

parameter_turn_complete : (all : List ParamTree) (ws : List Word) (p : ParamTree) (rest : List Word) → IsNextParameter ws p rest → parameter_turn all ws ≡ Tries (Some (all ++ p ∷ [], rest))
parameter_turn_complete all _ _ _ (next_parameter {a} {p} {rest} is) = ap (λ (r : Option (ParamTree × List Word)). Tries (r >>= λ x. Some (all ++ x.0 ∷ [], x.1))) (parameter_complete a p rest is)

parameters_complete : (ws : List Word) (ps : List ParamTree) (end : List Word) → IsParameters ws ps end → (behind : List Word) → end ≡ SignWord CLOSE_PAREN ∷ behind → parameters_of ws ≡ Some (ps, behind)
parameters_complete _ _ _ no_parameter behind q = subst (λ l. parameters_of l ≡ Some ([], behind)) (sym q) refl
parameters_complete _ _ _ (void_alone {rest}) behind q = subst (λ l. parameters_of (KeywordWord VOID ∷ l) ≡ Some ([], behind)) (sym q) refl
parameters_complete _ _ _ (parameters {ws} {a} {p} {ps} {rest} first others) behind q =
    let f = parameter_first ws p a first in
    let ends : (all : List ParamTree) → parameter_turn all rest ≡ Ends = λ all. ap (parameter_turn all) q in
    let all : turns parameter_turn (length a + 1) (p ∷ []) a ≡ Some (p ∷ ps, SignWord CLOSE_PAREN ∷ behind) = list_complete IsNextParameter parameter_turn parameter_turn_complete next_parameter_shorter a ps rest others ends (p ∷ []) (length a + 1) (omega arith) ∙ ap (λ l. Some (p ∷ ps, l)) q in
    if_no (has_sign CLOSE_PAREN ws) _ _ _ f.0 (if_no (has_keyword VOID ws && has_sign CLOSE_PAREN (tail ws)) _ _ _ f.1
    (bind_is (parameter_of ws) _ (p, a) _ (parameter_complete ws p a first) (bind_is (turns parameter_turn (length a + 1) (p ∷ []) a) _ (p ∷ ps, SignWord CLOSE_PAREN ∷ behind) _ all refl)))

function_complete : (en : Bool) (t : TypeTree) (name : List ℕ) (b c : List Word) (ps : List ParamTree) (ss : StmtTrees) (h : ℕ) (rest : List Word) → IsParameters b ps (SignWord CLOSE_PAREN ∷ SignWord OPEN_BRACE ∷ c) → IsStatements c ss h (SignWord CLOSE_BRACE ∷ rest) → h ≤ nesting → function_of en t name b ≡ Some (FunctionTree en t name ps ss, rest)
function_complete en t name b c ps ss h rest params body low =
    bind_is (parameters_of b) _ (ps, SignWord OPEN_BRACE ∷ c) _ (parameters_complete b ps _ params (SignWord OPEN_BRACE ∷ c) refl)
    (bind_is (statements_by (statement_at nesting) c) _ (ss, rest) _ (bind_is (turns (statement_turn (statement_at nesting)) (length c + 1) NoStmts c) _ (ss, SignWord CLOSE_BRACE ∷ rest) _ (statements_complete c ss h _ body nesting low refl refl NoStmts (length c + 1) (omega arith)) refl) refl)

function_read : (ws : List Word) (en : Bool) (a : List Word) (n : ℕ) (t : TypeTree) (name : List ℕ) (b : List Word) (d : DeclTree) (rest : List Word) → IsEntry ws en a → IsPointerType n a t (NameWord name ∷ SignWord OPEN_PAREN ∷ b) → n ≤ nesting → function_of en t name b ≡ Some (d, rest) → declaration_of ws ≡ Some (d, rest)
function_read _ _ _ n t name b d end (no_entry {rest}) pointer le e =
    ap (declaration_by rest) (pointer_first n rest t name _ pointer (SignWord OPEN_PAREN ∷ b) refl).plain
    ∙ bind_is (pointer_type_of rest) _ (t, nesting - n, NameWord name ∷ SignWord OPEN_PAREN ∷ b) _ (pointer_complete n rest t _ pointer refl refl le) e
function_read _ _ _ n t name b d end (entry {rest}) pointer le e =
    bind_is (pointer_type_of rest) _ (t, nesting - n, NameWord name ∷ SignWord OPEN_PAREN ∷ b) _ (pointer_complete n rest t _ pointer refl refl le) e

pub declaration_complete : (ws : List Word) (d : DeclTree) (rest : List Word) → IsDeclaration ws d rest → declaration_of ws ≡ Some (d, rest)
declaration_complete _ _ _ (structure {a} {b} {name} {m} {ms} {rest} first others) = structure_complete a b name m ms rest first others
declaration_complete _ _ _ (global {ws} {a} {b} {c} {g} {r} {t} {name} {i} {rest} grant readers d value) =
    let f = declarator_first b t name c d in
    shared_read ws a b c g r t name i rest grant readers d value (grant_complete SHARED ws g a grant (grant_keyword READ SHARED a r b readers refl f.no_shared)) (grant_complete READ a r b readers f.no_read)
declaration_complete _ _ _ (function {n} {h} {ws} {a} {b} {c} {e} {t} {name} {ps} {ss} {rest} en pointer le params body low) =
    function_read ws e a n t name b (FunctionTree e t name ps ss) rest en pointer le (function_complete e t name b c ps ss h rest params body low)

-- files

abbrev Units : Type 0
Units = Result (List DeclTree) ℕ

-- declarations behind those done, and nothing behind them
record Whole (done all : List DeclTree) (ws : List Word) : Type 0 where
  ds : List DeclTree
  same : all ≡ done ++ ds
  is : IsList IsDeclaration ws ds []

-- declarations behind those done, and a rest that none begins
record Stopped (done : List DeclTree) (ws : List Word) (k : ℕ) : Type 0 where
  ds : List DeclTree
  rest : List Word
  begun : IsList IsDeclaration ws ds rest
  count : length done + length ds ≡ k
  some : rest ≡ [] → ⊥
  none : (d : DeclTree) (after : List Word) → IsDeclaration rest d after → ⊥

units_sound : (n : ℕ) (done : List DeclTree) (ws : List Word) (all : List DeclTree) → units n done ws ≡ Ok all → Whole done all ws
units_sound zero done ws all e = absurd cc
units_sound (suc n) done [] all e =
    let q : done ≡ all = cc in
    record { ds = []; same = sym q ∙ sym (append-nil done); is = no_item }
units_sound (suc n) done (w ∷ ws) all e = by_declaration (λ x f. units_sound n (done ++ x.0 ∷ []) x.1 all f) (declaration_of (w ∷ ws)) refl e
  where
    by_declaration : ((x : DeclTree × List Word) → units n (done ++ x.0 ∷ []) x.1 ≡ Ok all → Whole (done ++ x.0 ∷ []) all x.1) → (o : Option (DeclTree × List Word)) → declaration_of (w ∷ ws) ≡ o → unit_step (units n) done o ≡ Ok all → Whole done all (w ∷ ws)
    by_declaration again None q f = absurd cc
    by_declaration again (Some x) q f =
        let more = again x f in
        record { ds = x.0 ∷ more.ds; same = more.same ∙ append_assoc done (x.0 ∷ []) more.ds; is = next_item (declaration_sound (w ∷ ws) x q) more.is }

units_stopped : (n : ℕ) (done : List DeclTree) (ws : List Word) (k : ℕ) → length ws < n → units n done ws ≡ Err k → Stopped done ws k
units_stopped zero done ws k lt e = absurd (omega (arith, lt))
units_stopped (suc n) done [] k lt e = absurd cc
units_stopped (suc n) done (w ∷ ws) k lt e = by_declaration (λ x less f. units_stopped n (done ++ x.0 ∷ []) x.1 k less f) (declaration_of (w ∷ ws)) refl e
  where
    by_declaration : ((x : DeclTree × List Word) → length x.1 < n → units n (done ++ x.0 ∷ []) x.1 ≡ Err k → Stopped (done ++ x.0 ∷ []) x.1 k) → (o : Option (DeclTree × List Word)) → declaration_of (w ∷ ws) ≡ o → unit_step (units n) done o ≡ Err k → Stopped done (w ∷ ws) k
    by_declaration again None q f =
        let l : length done ≡ k = cc in
        record {
          ds = [];
          rest = w ∷ ws;
          begun = no_item;
          count = omega (arith, l);
          some = λ r. absurd cc;
          none = λ d after is. let r : None ≡ Some (d, after) = sym q ∙ declaration_complete (w ∷ ws) d after is in absurd cc;
        }
    by_declaration again (Some x) q f =
        let is = declaration_sound (w ∷ ws) x q in
        let less : length x.1 < n = omega (arith, lt, declaration_shorter (w ∷ ws) x.0 x.1 is) in
        let more = again x less f in
        let l = length-append done (x.0 ∷ []) in
        record { ds = x.0 ∷ more.ds; rest = more.rest; begun = next_item is more.begun; count = omega (arith, more.count, l); some = more.some; none = more.none }

units_complete : (ws : List Word) (ds : List DeclTree) (end : List Word) → IsList IsDeclaration ws ds end → end ≡ [] → (n : ℕ) (done : List DeclTree) → length ws < n → units n done ws ≡ Ok (done ++ ds)
units_complete _ _ _ no_item q zero done lt = absurd (omega (arith, lt))
units_complete _ _ _ no_item q (suc n) done lt = ap (units (suc n) done) q ∙ ap (λ l. Ok l) (sym (append-nil done))
units_complete _ _ _ (next_item first others) q zero done lt = absurd (omega (arith, lt))
units_complete _ _ _ (next_item {ws} {a} {x} {xs} {rest} first others) q (suc n) done lt =
    let shorter = declaration_shorter ws x a first in
    let less : length a < n = omega (arith, lt, shorter) in
    by_words n done x xs a ws (declaration_complete ws x a first) (units_complete a xs rest others q n (done ++ x ∷ []) less) (omega (arith, shorter))
  where
    by_words : (n : ℕ) (done : List DeclTree) (x : DeclTree) (xs : List DeclTree) (a ws : List Word) → declaration_of ws ≡ Some (x, a) → units n (done ++ x ∷ []) a ≡ Ok ((done ++ x ∷ []) ++ xs) → 0 < length ws → units (suc n) done ws ≡ Ok (done ++ (x ∷ xs))
    by_words n done x xs a [] e f lt = absurd (omega (arith, lt))
    by_words n done x xs a (w ∷ ws) e f lt = ap (unit_step (units n) done) e ∙ f ∙ ap (λ l. Ok l) (append_assoc done (x ∷ []) xs)

pub unit_sound : (ws : List Word) (ds : List DeclTree) → unit_of ws ≡ Ok ds → IsUnit ws ds
unfolding unit_of
unit_sound ws ds e =
    let w = units_sound (length ws + 1) [] ws ds e in
    subst (λ l. IsList IsDeclaration ws l []) (sym w.same) w.is

pub unit_complete : (ws : List Word) (ds : List DeclTree) → IsUnit ws ds → unit_of ws ≡ Ok ds
unfolding unit_of
unit_complete ws ds is = units_complete ws ds [] is refl (length ws + 1) [] (omega arith)

pub unit_stopped : (ws : List Word) (n : ℕ) → unit_of ws ≡ Err n → StopsBehind ws n
unfolding unit_of
unit_stopped ws n e =
    let s = units_stopped (length ws + 1) [] ws n (omega arith) e in
    record { declarations = s.ds; rest = s.rest; begun = s.begun; count = omega (arith, s.count); some = s.some; none = s.none }

pub one_tree : (ws : List Word) (ds es : List DeclTree) → IsUnit ws ds → IsUnit ws es → ds ≡ es
one_tree ws ds es is js =
    let q : ◌≡◌ {A = Units} (Ok ds) (Ok es) = sym (unit_complete ws ds is) ∙ unit_complete ws es js in
    cc
