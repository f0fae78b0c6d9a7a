-- What is read as a primary expression is one in the grammar.
use Rattle.std.proofs.Common.{◌≡◌, ℕ, ◌+◌, ◌<◌, true, List, [], ◌∷◌, Some, sym, ap, ◌∙◌, subst}
use Rattle.std.specs.Prelude.{◌==◌, ◌&&◌, nat_lt}
use Rattle.std.proofs.lemmas.Bool.{eqb-true, ltb-true}
use Rattle.fx_c_ast.specs.declared.operator.IntType.{IntType}
use Rattle.fx_c_ast.specs.declared.operator.IntType.TheVariants.{Int}
use Rattle.fx_c_ast.specs.ParsedTrees.{ExprTree, NumberTree, TextTree, VarTree, CallTree, GateTree, GetcTree, PutcTree, DevLoadTree, DevStoreTree, SpawnTree, SwitchTree, MeTree, ExprTrees}
use Rattle.fx_c_lex.specs.declared.sign.TheConstants.{OPEN_PAREN, CLOSE_PAREN, COMMA}
use Rattle.fx_c_lex.specs.declared.keyword.TheConstants.{GATE, PUTC, GETC, IN, OUT, SPAWN, SWITCH, SELF}
use Rattle.fx_c_parse.specs.declared.front.PrimaryFront.{PrimaryFront}
use Rattle.fx_c_parse.specs.declared.front.PrimaryFront.TheVariants as primary
use Rattle.fx_c_parse.specs.declared.head.Around.TheVariants.{Parentheses, Putc, Switch, Spawn, DevStore}
use Rattle.fx_c_parse.specs.Words.{Word, NameWord, KeywordWord, NumberWord, CharWord, TextWord, SignWord, first_name, first_number, tail, has_sign, after_sign}
use Rattle.fx_c_parse.specs.Reading.{◌>>=◌}
use Rattle.fx_c_parse.specs.Fronts.{primary_front, primary_by_keyword}
use Rattle.fx_c_parse.specs.Expressions.{levels, constant_of, device_of, nothing_of, named_of, HeadTree, WholeHead, InsideHead, CallHead, GateHead, head_by, head_of, around_tree}
use Rattle.fx_c_parse.specs.Grammar.{IsPrimary, number, character, string, variable, parentheses, call, gate, putc, getc, device_load, device_store, spawn, switch, me, IsBinary, IsArguments, IsMore}
use Rattle.fx_c_parse.proofs.Inversions.{bind_some, some_is, if_then, and_true, chosen, sign_first, behind_sign, name_first, number_first}

-- the words that a primary expression begins with
pub data FrontIs : List Word → PrimaryFront → Type 0 where
  other_front : {ws : List Word} → FrontIs ws primary.Constant
  variable_front : {name : List ℕ} {a : List Word} → FrontIs (NameWord name ∷ a) primary.Variable
  call_front : {name : List ℕ} {a : List Word} → FrontIs (NameWord name ∷ SignWord OPEN_PAREN ∷ a) primary.Call
  parentheses_front : {a : List Word} → FrontIs (SignWord OPEN_PAREN ∷ a) primary.Parentheses
  gate_front : {a : List Word} → FrontIs (KeywordWord GATE ∷ a) primary.Gate
  putc_front : {a : List Word} → FrontIs (KeywordWord PUTC ∷ a) primary.Putc
  getc_front : {a : List Word} → FrontIs (KeywordWord GETC ∷ a) primary.Getc
  in_front : {a : List Word} → FrontIs (KeywordWord IN ∷ a) primary.In
  out_front : {a : List Word} → FrontIs (KeywordWord OUT ∷ a) primary.Out
  spawn_front : {a : List Word} → FrontIs (KeywordWord SPAWN ∷ a) primary.Spawn
  switch_front : {a : List Word} → FrontIs (KeywordWord SWITCH ∷ a) primary.Switch
  me_front : {a : List Word} → FrontIs (KeywordWord SELF ∷ a) primary.Me

keyword_front : (k : ℕ) (a : List Word) → FrontIs (KeywordWord k ∷ a) (primary_by_keyword (Some k))
keyword_front k a =
    let P : PrimaryFront → Type 0 = FrontIs (KeywordWord k ∷ a) in
    let at : (n : ℕ) (f : PrimaryFront) → FrontIs (KeywordWord n ∷ a) f → (k == n) ≡ true → P f = λ n f is e. subst (λ j. FrontIs (KeywordWord j ∷ a) f) (sym (eqb-true k n e)) is in
    chosen P (k == GATE) _ _ (at GATE _ gate_front) (λ _.
    chosen P (k == PUTC) _ _ (at PUTC _ putc_front) (λ _.
    chosen P (k == GETC) _ _ (at GETC _ getc_front) (λ _.
    chosen P (k == IN) _ _ (at IN _ in_front) (λ _.
    chosen P (k == OUT) _ _ (at OUT _ out_front) (λ _.
    chosen P (k == SPAWN) _ _ (at SPAWN _ spawn_front) (λ _.
    chosen P (k == SWITCH) _ _ (at SWITCH _ switch_front) (λ _.
    chosen P (k == SELF) _ _ (at SELF _ me_front) (λ _. other_front))))))))

front_is : (ws : List Word) → FrontIs ws (primary_front ws)
front_is [] = other_front
front_is (NameWord name ∷ a) = chosen (FrontIs (NameWord name ∷ a)) (has_sign OPEN_PAREN a) _ _ (λ e. subst (λ l. FrontIs (NameWord name ∷ l) primary.Call) (sym (sign_first OPEN_PAREN a e)) call_front) (λ _. variable_front)
front_is (SignWord s ∷ a) = chosen (FrontIs (SignWord s ∷ a)) (s == OPEN_PAREN) _ _ (λ e. subst (λ j. FrontIs (SignWord j ∷ a) primary.Parentheses) (sym (eqb-true s OPEN_PAREN e)) parentheses_front) (λ _. other_front)
front_is (KeywordWord k ∷ a) = keyword_front k a
front_is (NumberWord value ty ∷ a) = other_front
front_is (CharWord byte ∷ a) = other_front
front_is (TextWord bytes ∷ a) = other_front

-- what the beginning of a primary expression is, behind which these words stand
abbrev pub HeadIs : List Word → HeadTree → List Word → Type 0
HeadIs ws (WholeHead e) rest = IsPrimary ws e 1 rest
HeadIs ws (InsideHead what) a = (x : ExprTree) (h : ℕ) (rest : List Word) → IsBinary levels a x h (SignWord CLOSE_PAREN ∷ rest) → IsPrimary ws (around_tree what x) (h + 1) rest
HeadIs ws (CallHead f) a = (xs : ExprTrees) (h : ℕ) (rest : List Word) → IsArguments a xs h (SignWord CLOSE_PAREN ∷ rest) → IsPrimary ws (CallTree f xs) (h + 1) rest
HeadIs ws (GateHead f) a = (xs : ExprTrees) (h : ℕ) (rest : List Word) → IsMore a xs h (SignWord CLOSE_PAREN ∷ rest) → IsPrimary ws (GateTree f xs) (h + 1) rest

abbrev Found : Type 0
Found = HeadTree × List Word

-- a head that was read is this one
same_head : (ws : List Word) (x y : Found) → Some x ≡ Some y → HeadIs ws x.0 x.1 → HeadIs ws y.0 y.1
same_head ws x y e is = subst (λ (z : Found). HeadIs ws z.0 z.1) (some_is x y e) is

constant_sound : (ws : List Word) (x : ExprTree) (rest : List Word) → constant_of ws ≡ Some (x, rest) → IsPrimary ws x 1 rest
constant_sound [] x rest e = absurd cc
constant_sound (NumberWord value ty ∷ a) x rest e = subst (λ (z : ExprTree × List Word). IsPrimary (NumberWord value ty ∷ a) z.0 1 z.1) (some_is (NumberTree value ty, a) (x, rest) e) number
constant_sound (CharWord byte ∷ a) x rest e = subst (λ (z : ExprTree × List Word). IsPrimary (CharWord byte ∷ a) z.0 1 z.1) (some_is (NumberTree byte Int, a) (x, rest) e) character
constant_sound (TextWord bytes ∷ a) x rest e = subst (λ (z : ExprTree × List Word). IsPrimary (TextWord bytes ∷ a) z.0 1 z.1) (some_is (TextTree bytes, a) (x, rest) e) string
constant_sound (NameWord bytes ∷ a) x rest e = absurd cc
constant_sound (KeywordWord k ∷ a) x rest e = absurd cc
constant_sound (SignWord s ∷ a) x rest e = absurd cc

nothing_sound : (ws rest : List Word) → nothing_of ws ≡ Some rest → ws ≡ SignWord OPEN_PAREN ∷ SignWord CLOSE_PAREN ∷ rest
nothing_sound ws rest e =
    let a = bind_some (after_sign OPEN_PAREN ws) (after_sign CLOSE_PAREN) rest e in
    behind_sign OPEN_PAREN ws a.0 a.1 ∙ ap (λ l. SignWord OPEN_PAREN ∷ l) (behind_sign CLOSE_PAREN a.0 rest a.2)

named_sound : (ws : List Word) (f : List ℕ) (rest : List Word) → named_of ws ≡ Some (f, rest) → ws ≡ SignWord OPEN_PAREN ∷ NameWord f ∷ rest
named_sound ws f rest e =
    let a = bind_some (after_sign OPEN_PAREN ws) _ (f, rest) e in
    let n = bind_some (first_name a.0) _ (f, rest) a.2 in
    behind_sign OPEN_PAREN ws a.0 a.1 ∙ ap (λ l. SignWord OPEN_PAREN ∷ l) (name_first a.0 n.0 n.1) ∙ ap (λ (z : List ℕ × List Word). SignWord OPEN_PAREN ∷ NameWord z.0 ∷ z.1) (some_is (n.0, tail a.0) (f, rest) n.2)

-- the numbers of a device and of a register, and the words they stand in
record Device (ws : List Word) (d r : ℕ) (rest : List Word) : Type 0 where
  t : IntType
  u : IntType
  at : ws ≡ SignWord OPEN_PAREN ∷ NumberWord d t ∷ SignWord COMMA ∷ NumberWord r u ∷ rest
  device : d < 16
  register : r < 512

device_sound : (ws : List Word) (d r : ℕ) (rest : List Word) → device_of ws ≡ Some (d, r, rest) → Device ws d r rest
device_sound ws d r rest e =
    let a = bind_some (after_sign OPEN_PAREN ws) _ (d, r, rest) e in
    let x = bind_some (first_number a.0) _ (d, r, rest) a.2 in
    let b = bind_some (after_sign COMMA (tail a.0)) _ (d, r, rest) x.2 in
    let y = bind_some (first_number b.0) _ (d, r, rest) b.2 in
    let p = if_then (nat_lt x.0 16 && nat_lt y.0 512) (Some (x.0, y.0, tail b.0)) (d, r, rest) y.2 in
    let q : (x.0, y.0, tail b.0) ≡ (d, r, rest) = some_is (x.0, y.0, tail b.0) (d, r, rest) p.1 in
    let f = number_first a.0 x.0 x.1 in
    let g = number_first b.0 y.0 y.1 in
    let lt = and_true (nat_lt x.0 16) (nat_lt y.0 512) p.0 in
    let whole : ws ≡ SignWord OPEN_PAREN ∷ NumberWord x.0 f.0 ∷ SignWord COMMA ∷ NumberWord y.0 g.0 ∷ tail b.0 =
    behind_sign OPEN_PAREN ws a.0 a.1 ∙ ap (λ l. SignWord OPEN_PAREN ∷ l) f.1 ∙ ap (λ l. SignWord OPEN_PAREN ∷ NumberWord x.0 f.0 ∷ l) (behind_sign COMMA (tail a.0) b.0 b.1) ∙ ap (λ l. SignWord OPEN_PAREN ∷ NumberWord x.0 f.0 ∷ SignWord COMMA ∷ l) g.1 in
    let found : Device ws x.0 y.0 (tail b.0) = record { t = f.0; u = g.0; at = whole; device = ltb-true x.0 16 lt.0; register = ltb-true y.0 512 lt.1 } in
    subst (λ (z : ℕ × ℕ × List Word). Device ws z.0 z.1 z.2) q found

gate_sound : (ws : List Word) (x : Found) → (named_of ws >>= λ n. Some (GateHead n.0, n.1)) ≡ Some x → HeadIs (KeywordWord GATE ∷ ws) x.0 x.1
gate_sound ws x e =
    let n = bind_some (named_of ws) _ x e in
    same_head (KeywordWord GATE ∷ ws) (GateHead n.0.0, n.0.1) x n.2 (λ xs h rest is. subst (λ l. IsPrimary (KeywordWord GATE ∷ l) (GateTree n.0.0 xs) (h + 1) rest) (sym (named_sound ws n.0.0 n.0.1 n.1)) (gate is))

putc_sound : (ws : List Word) (x : Found) → (after_sign OPEN_PAREN ws >>= λ rest. Some (InsideHead Putc, rest)) ≡ Some x → HeadIs (KeywordWord PUTC ∷ ws) x.0 x.1
putc_sound ws x e =
    let a = bind_some (after_sign OPEN_PAREN ws) _ x e in
    same_head (KeywordWord PUTC ∷ ws) (InsideHead Putc, a.0) x a.2 (λ y h rest is. subst (λ l. IsPrimary (KeywordWord PUTC ∷ l) (PutcTree y) (h + 1) rest) (sym (behind_sign OPEN_PAREN ws a.0 a.1)) (putc is))

switch_sound : (ws : List Word) (x : Found) → (after_sign OPEN_PAREN ws >>= λ rest. Some (InsideHead Switch, rest)) ≡ Some x → HeadIs (KeywordWord SWITCH ∷ ws) x.0 x.1
switch_sound ws x e =
    let a = bind_some (after_sign OPEN_PAREN ws) _ x e in
    same_head (KeywordWord SWITCH ∷ ws) (InsideHead Switch, a.0) x a.2 (λ y h rest is. subst (λ l. IsPrimary (KeywordWord SWITCH ∷ l) (SwitchTree y) (h + 1) rest) (sym (behind_sign OPEN_PAREN ws a.0 a.1)) (switch is))

getc_sound : (ws : List Word) (x : Found) → (nothing_of ws >>= λ rest. Some (WholeHead GetcTree, rest)) ≡ Some x → HeadIs (KeywordWord GETC ∷ ws) x.0 x.1
getc_sound ws x e =
    let a = bind_some (nothing_of ws) _ x e in
    same_head (KeywordWord GETC ∷ ws) (WholeHead GetcTree, a.0) x a.2 (subst (λ l. IsPrimary (KeywordWord GETC ∷ l) GetcTree 1 a.0) (sym (nothing_sound ws a.0 a.1)) getc)

me_sound : (ws : List Word) (x : Found) → (nothing_of ws >>= λ rest. Some (WholeHead MeTree, rest)) ≡ Some x → HeadIs (KeywordWord SELF ∷ ws) x.0 x.1
me_sound ws x e =
    let a = bind_some (nothing_of ws) _ x e in
    same_head (KeywordWord SELF ∷ ws) (WholeHead MeTree, a.0) x a.2 (subst (λ l. IsPrimary (KeywordWord SELF ∷ l) MeTree 1 a.0) (sym (nothing_sound ws a.0 a.1)) me)

in_sound : (ws : List Word) (x : Found) → (device_of ws >>= λ d. after_sign CLOSE_PAREN d.2 >>= λ rest. Some (WholeHead (DevLoadTree d.0 d.1), rest)) ≡ Some x → HeadIs (KeywordWord IN ∷ ws) x.0 x.1
in_sound ws x e =
    let d = bind_some (device_of ws) _ x e in
    let c = bind_some (after_sign CLOSE_PAREN d.0.2) _ x d.2 in
    let f = device_sound ws d.0.0 d.0.1 d.0.2 d.1 in
    let whole : ws ≡ SignWord OPEN_PAREN ∷ NumberWord d.0.0 f.t ∷ SignWord COMMA ∷ NumberWord d.0.1 f.u ∷ SignWord CLOSE_PAREN ∷ c.0 = f.at ∙ ap (λ l. SignWord OPEN_PAREN ∷ NumberWord d.0.0 f.t ∷ SignWord COMMA ∷ NumberWord d.0.1 f.u ∷ l) (behind_sign CLOSE_PAREN d.0.2 c.0 c.1) in
    same_head (KeywordWord IN ∷ ws) (WholeHead (DevLoadTree d.0.0 d.0.1), c.0) x c.2 (subst (λ l. IsPrimary (KeywordWord IN ∷ l) (DevLoadTree d.0.0 d.0.1) 1 c.0) (sym whole) (device_load f.device f.register))

out_sound : (ws : List Word) (x : Found) → (device_of ws >>= λ d. after_sign COMMA d.2 >>= λ rest. Some (InsideHead (DevStore d.0 d.1), rest)) ≡ Some x → HeadIs (KeywordWord OUT ∷ ws) x.0 x.1
out_sound ws x e =
    let d = bind_some (device_of ws) _ x e in
    let c = bind_some (after_sign COMMA d.0.2) _ x d.2 in
    let f = device_sound ws d.0.0 d.0.1 d.0.2 d.1 in
    let whole : ws ≡ SignWord OPEN_PAREN ∷ NumberWord d.0.0 f.t ∷ SignWord COMMA ∷ NumberWord d.0.1 f.u ∷ SignWord COMMA ∷ c.0 = f.at ∙ ap (λ l. SignWord OPEN_PAREN ∷ NumberWord d.0.0 f.t ∷ SignWord COMMA ∷ NumberWord d.0.1 f.u ∷ l) (behind_sign COMMA d.0.2 c.0 c.1) in
    same_head (KeywordWord OUT ∷ ws) (InsideHead (DevStore d.0.0 d.0.1), c.0) x c.2 (λ y h rest is. subst (λ l. IsPrimary (KeywordWord OUT ∷ l) (DevStoreTree d.0.0 d.0.1 y) (h + 1) rest) (sym whole) (device_store f.device f.register is))

spawn_sound : (ws : List Word) (x : Found) → (named_of ws >>= λ n. after_sign COMMA n.1 >>= λ rest. Some (InsideHead (Spawn n.0), rest)) ≡ Some x → HeadIs (KeywordWord SPAWN ∷ ws) x.0 x.1
spawn_sound ws x e =
    let n = bind_some (named_of ws) _ x e in
    let c = bind_some (after_sign COMMA n.0.1) _ x n.2 in
    let whole : ws ≡ SignWord OPEN_PAREN ∷ NameWord n.0.0 ∷ SignWord COMMA ∷ c.0 = named_sound ws n.0.0 n.0.1 n.1 ∙ ap (λ l. SignWord OPEN_PAREN ∷ NameWord n.0.0 ∷ l) (behind_sign COMMA n.0.1 c.0 c.1) in
    same_head (KeywordWord SPAWN ∷ ws) (InsideHead (Spawn n.0.0), c.0) x c.2 (λ y h rest is. subst (λ l. IsPrimary (KeywordWord SPAWN ∷ l) (SpawnTree n.0.0 y) (h + 1) rest) (sym whole) (spawn is))

by_front : (ws : List Word) (f : PrimaryFront) → FrontIs ws f → (x : Found) → head_by ws f ≡ Some x → HeadIs ws x.0 x.1
by_front _ _ (other_front {ws}) x e =
    let c = bind_some (constant_of ws) _ x e in
    same_head ws (WholeHead c.0.0, c.0.1) x c.2 (constant_sound ws c.0.0 c.0.1 c.1)
by_front _ _ (variable_front {name} {a}) x e = same_head (NameWord name ∷ a) (WholeHead (VarTree name), a) x e variable
by_front _ _ (call_front {name} {a}) x e = same_head (NameWord name ∷ SignWord OPEN_PAREN ∷ a) (CallHead name, a) x e (λ xs h rest is. call is)
by_front _ _ (parentheses_front {a}) x e = same_head (SignWord OPEN_PAREN ∷ a) (InsideHead Parentheses, a) x e (λ y h rest is. parentheses is)
by_front _ _ (gate_front {a}) x e = gate_sound a x e
by_front _ _ (putc_front {a}) x e = putc_sound a x e
by_front _ _ (getc_front {a}) x e = getc_sound a x e
by_front _ _ (in_front {a}) x e = in_sound a x e
by_front _ _ (out_front {a}) x e = out_sound a x e
by_front _ _ (spawn_front {a}) x e = spawn_sound a x e
by_front _ _ (switch_front {a}) x e = switch_sound a x e
by_front _ _ (me_front {a}) x e = me_sound a x e

pub head_sound : (ws : List Word) (x : HeadTree × List Word) → head_of ws ≡ Some x → HeadIs ws x.0 x.1
head_sound ws x e = by_front ws (primary_front ws) (front_is ws) x e
