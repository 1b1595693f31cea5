-- What the index of a table's names says of its scopes.
use Rattle.std.proofs.Common.{◌≡◌, ◌∙◌, refl, sym, ap, subst, arith, ℕ, zero, suc, ◌+◌, ◌<◌, ◌≤◌, List, [], ◌∷◌, ◌++◌, length, get_or, take, Bool, true, false, None, Some, Vec, Global}
use Rattle.std.specs.Prelude.{if◌then◌else◌, map, is_some, ◌||◌}
use Rattle.std.specs.declared.option.Option.{Option}
use Rattle.std.specs.HashMap.{HashMap, get_by, UpdatesBy}
use Rattle.std.specs.Map.{KeepsOthers}
use Rattle.std.specs.Option.{option_map, option_or}
use Rattle.std.specs.Str.{bytes_eq}
use Rattle.std.proofs.lemmas.Cmp.{nat_list_eq_equiv}
use Rattle.std.proofs.lemmas.Slice.Eq.{bytes_eq-Decides}
use Rattle.norm_base.specs.Files.{Files}
use Rattle.thrax_meaning.specs.Index.{newest, IsIndex}
use Rattle.thrax_meaning.specs.Meaning.{Meaning, Scope, empty, bound, found}
use Rattle.thrax_meaning.specs.declared.table.Entry.{Entry}
use Rattle.thrax_meaning.specs.Tables.{scope_of, scope_after, meaning_of, weight, kind_weight}

-- One name more

push_more : (b : Bool) (k : ℕ) (later here : Option ℕ) → option_or (option_map suc (if b then Some k else later)) here ≡ (if b then Some (suc k) else option_or (option_map suc later) here)
push_more true k later here = refl
push_more false k later here = refl

pub newest_push : (names : List (List ℕ)) (m n : List ℕ) → newest (names ++ m ∷ []) n ≡ (if bytes_eq m n then Some (length names) else newest names n)
newest_push [] m n = refl
newest_push (k ∷ names) m n =
    ap (λ o. option_or (option_map suc o) (if bytes_eq k n then Some 0 else None)) (newest_push names m n) ∙ push_more (bytes_eq m n) (length names) (newest names n) (if bytes_eq k n then Some 0 else None)

apart : (a n k : List ℕ) → bytes_eq a n ≡ false → bytes_eq a k ≡ true → bytes_eq n k ≡ false
apart a n k e h = nat_list_eq_equiv.symm n k ∙ sym (nat_list_eq_equiv.congr a k n h) ∙ e

other : {S : Type 0} (old new : HashMap (Vec ℕ Global) ℕ S) (key : Vec ℕ Global) (n : List ℕ) → KeepsOthers (λ v w. bytes_eq v.items w.items) (λ k. bytes_eq key.items k.items) old.entries new.entries
    → bytes_eq key.items n ≡ false → get_by (λ k. bytes_eq n k.items) new ≡ get_by (λ k. bytes_eq n k.items) old
unfolding KeepsOthers
other old new key n h e = h (λ k. bytes_eq n k.items) (λ x y. nat_list_eq_equiv.congr n x.items y.items) (λ k. apart key.items n k.items e)

changed : {S : Type 0} (old new : HashMap (Vec ℕ Global) ℕ S) (key : Vec ℕ Global) (n : List ℕ) (place : ℕ) (b : Bool) → bytes_eq key.items n ≡ b
    → UpdatesBy (λ v w. bytes_eq v.items w.items) (λ k. bytes_eq key.items k.items) old new (Some place)
    → get_by (λ k. bytes_eq n k.items) new ≡ (if b then Some place else get_by (λ k. bytes_eq n k.items) old)
changed old new key n place true e h = subst (λ l. get_by (λ k. bytes_eq l k.items) new ≡ Some place) ((bytes_eq-Decides key.items n).0 e) h.1
changed old new key n place false e h = other old new key n h.3 e

pub index_push : {S : Type 0} (old new : HashMap (Vec ℕ Global) ℕ S) (key : Vec ℕ Global) (names : List (List ℕ)) (place : ℕ) → place ≡ length names → IsIndex old names
    → UpdatesBy (λ v w. bytes_eq v.items w.items) (λ k. bytes_eq key.items k.items) old new (Some place) → IsIndex new (names ++ key.items ∷ [])
index_push old new key names place p h u n =
    changed old new key n place (bytes_eq key.items n) refl u
    ∙ ap (λ o. if bytes_eq key.items n then Some place else o) (h n)
    ∙ ap (λ k. if bytes_eq key.items n then Some k else newest names n) p ∙ sym (newest_push names key.items n)

-- The entries that the index leads to

none_here : (later : Option ℕ) (b : Bool) → option_or (option_map suc later) (if b then Some 0 else None) ≡ None → (later ≡ None) × (b ≡ false)
none_here None true e = absurd (let no : Some 0 ≡ None = e in cc)
none_here None false e = (refl, refl)
none_here (Some k) b e = absurd (let no : Some (suc k) ≡ None = e in cc)

some_here : (later : Option ℕ) (b : Bool) → option_or (option_map suc later) (if b then Some 0 else None) ≡ Some 0 → (later ≡ None) × (b ≡ true)
some_here None true e = (refl, refl)
some_here None false e = absurd (let no : None ≡ Some 0 = e in cc)
some_here (Some k) b e = absurd (let no : Some (suc k) ≡ Some 0 = e in cc)

pub some_later : (later : Option ℕ) (b : Bool) (p : ℕ) → option_or (option_map suc later) (if b then Some 0 else None) ≡ Some (suc p) → later ≡ Some p
some_later None true p e = absurd (let no : Some 0 ≡ Some (suc p) = e in cc)
some_later None false p e = absurd (let no : None ≡ Some (suc p) = e in cc)
some_later (Some k) b p e = let same : Some (suc k) ≡ Some (suc p) = e in cc

module _ (f : Files) (done : List Scope) where
  never_after : (s : Scope) (es : List Entry) (n : List ℕ) (count : ℕ) → newest (map (λ e. e.name) es) n ≡ None → found (scope_after f done s (take count es)) n ≡ found s n
  never_after s [] n zero h = refl
  never_after s [] n (suc count) h = refl
  never_after s (e ∷ es) n zero h = refl
  never_after s (e ∷ es) n (suc count) h =
      let none = none_here (newest (map (λ e. e.name) es) n) (bytes_eq e.name n) h in
      let m = meaning_of f done s e.kind in
      never_after (bound e.name m s) es n count none.0 ∙ ap (λ b. if b then Some m else found s n) none.1

  at_after : (s : Scope) (es : List Entry) (n : List ℕ) (count place : ℕ) (x : Entry) → newest (map (λ e. e.name) es) n ≡ Some place → place < count → x ≡ get_or es place x
      → found (scope_after f done s (take count es)) n ≡ Some (meaning_of f done (scope_after f done s (take place es)) x.kind)
  at_after s [] n count place x h l e = absurd (let no : None ≡ Some place = h in cc)
  at_after s (y ∷ es) n zero place x h l e = absurd (omega (arith, l))
  at_after s (y ∷ es) n (suc count) zero x h l e =
      let here = some_here (newest (map (λ e. e.name) es) n) (bytes_eq y.name n) h in
      let m = meaning_of f done s y.kind in
      never_after (bound y.name m s) es n count here.0 ∙ ap (λ b. if b then Some m else found s n) here.1 ∙ ap (λ k. Some (meaning_of f done s k.kind)) (sym e)
  at_after s (y ∷ es) n (suc count) (suc place) x h l e =
      at_after (bound y.name (meaning_of f done s y.kind) s) es n count place x (some_later (newest (map (λ e. e.name) es) n) (bytes_eq y.name n) place h) (omega (arith, l)) e

  -- no entry has the name
  pub found_never : (es : List Entry) (n : List ℕ) (count : ℕ) → newest (map (λ e. e.name) es) n ≡ None → found (scope_of f done (take count es)) n ≡ None
  found_never es n count h = never_after empty es n count h

  -- the newest entry of the name is among the first
  pub found_at : (es : List Entry) (n : List ℕ) (count place : ℕ) (x : Entry) → newest (map (λ e. e.name) es) n ≡ Some place → place < count → x ≡ get_or es place x
      → found (scope_of f done (take count es)) n ≡ Some (meaning_of f done (scope_of f done (take place es)) x.kind)
  found_at es n count place x h l e = at_after empty es n count place x h l e

  either : (later : Option ℕ) (b : Bool) (m : Meaning) (before : Option Meaning) → (is_some later || is_some (if b then Some m else before)) ≡ (is_some (option_or (option_map suc later) (if b then Some 0 else None)) || is_some before)
  either None true m before = refl
  either None false m before = refl
  either (Some k) b m before = refl

  known_after : (s : Scope) (es : List Entry) (n : List ℕ) → is_some (found (scope_after f done s es) n) ≡ (is_some (newest (map (λ e. e.name) es) n) || is_some (found s n))
  known_after s [] n = refl
  known_after s (e ∷ es) n =
      known_after (bound e.name (meaning_of f done s e.kind) s) es n ∙ either (newest (map (λ e. e.name) es) n) (bytes_eq e.name n) (meaning_of f done s e.kind) (found s n)

  alone : (b : Bool) → (b || false) ≡ b
  alone true = refl
  alone false = refl

  -- an entry has the name
  pub found_known : (es : List Entry) (n : List ℕ) → is_some (newest (map (λ e. e.name) es) n) ≡ is_some (found (scope_of f done es) n)
  found_known es n = sym (known_after empty es n ∙ alone (is_some (newest (map (λ e. e.name) es) n)))

-- what stands before an entry weighs less by the entry
pub weight_at : (es : List Entry) (count place : ℕ) (x : Entry) → place < count → place < length es → x ≡ get_or es place x → weight (take place es) + kind_weight x.kind ≤ weight (take count es)
weight_at [] count place x l h e = absurd (omega (arith, h))
weight_at (y ∷ es) zero place x l h e = absurd (omega (arith, l))
weight_at (y ∷ es) (suc count) zero x l h e = let same : kind_weight x.kind ≡ kind_weight y.kind = ap (λ k. kind_weight k.kind) e in omega (arith, same)
weight_at (y ∷ es) (suc count) (suc place) x l h e = let more = weight_at es count place x (omega (arith, l)) (omega (arith, h)) e in omega (arith, more)
