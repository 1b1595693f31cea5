-- A record's table and first state.
use Rattle.std.proofs.Common.{◌≡◌, ◌∙◌, sym, ap, subst, refl, arith, ℕ, zero, suc, ◌≤◌, ◌<◌, List, [], ◌∷◌, ◌++◌, length, map, Option, Some, None, append_assoc, length-append, Bool, false}
use Rattle.std.specs.Prelude.{slice_get, All}
use Rattle.std.proofs.lemmas.Option.{slice_get-get_or, get_or_from_slice_get}
use Rattle.std.proofs.lemmas.List.{append-nil, drop_more}
use Rattle.std.proofs.lemmas.List.Elements.{All-nil, All-push}
use Rattle.weighted_relations.specs.Graphs.{GraphReads}
use Rattle.weighted_relations.specs.Relations.{Same}
use Rattle.state_table.specs.Numbers.{Numbers}
use Rattle.state_table.proofs.Numbering.{fresh_at}
use Rattle.token_record.specs.Fields.{no_fields, chain, field_of, fields_of}
use Rattle.token_record.specs.declared.tokens.Record.{Record}
use Rattle.field_orders.specs.declared.states.State.{State}
use Rattle.field_orders.specs.declared.states.State.TheVariants.{End}
use Rattle.field_orders.specs.Orders.{OrdersOf, IsOrderable, Joining}
use Rattle.field_orders.specs.Remainders.{Written, Rest, nothing, bytes_then, fields_then, field_at, unwritten, final_at, writing, IsWritten, AreWritten}
use Rattle.field_orders.specs.Sources.{Means, at_end, at_byte, at_text, at_fields, AllMean, Grew, Makes, IsSource}
use Rattle.field_orders.specs.Tables.{Stands, Grown, NumbersOf, Added}
use Rattle.field_orders.specs.Tables as tables
use Rattle.field_orders.proofs.Numbering.{added_grown, added_at, added_within, widened}
use Rattle.field_orders.proofs.Writings.{Says, Two, ZeroFree, NoZero, says_bytes, says_fields, Orderly, writing_reads, no_choice, zero_free_bytes, zero_free_fields}
use Rattle.field_orders.proofs.Writings as writings
use Rattle.field_orders.proofs.Joinings.{orderly_joining}
use Rattle.field_orders.proofs.Stating.{means_kept}

-- what the table of a record is
pub record Begun (r : Record) (t : List Written) (root : ℕ) : Type 0 where
  pub written : AreWritten t
  pub within : root < length t
  pub text : (field_at t root).text ≡ r.class ++ 124 ∷ []
  pub inner : All (λ k. k < length t) (field_at t root).inner
  pub stands : Stands t (field_at t root).inner (fields_of r.fields.items)

pub begun : (r : Record) (t0 t1 t2 : List Written) (text inner : List ℕ) (root : ℕ) → IsOrderable r → t0 ≡ [] → Grown t0 t1 → NumbersOf t1 inner (chain (map field_of r.fields.items)) → text ≡ r.class ++ 124 ∷ []
    → Added t1 t2 (record { text = text; inner = inner; braced = false }) root → Begun r t2 root
begun r t0 t1 t2 text inner root ok e g n same a =
    let p : Written = record { text = text; inner = inner; braced = false } in
    let it : IsWritten t1 p = record {
      some = (let q = ap length same ∙ length-append r.class (124 ∷ []) in omega (arith, q));
      bytes = subst (All (λ b. 1 ≤ b)) (sym same) (All-push (λ b. 1 ≤ b) r.class 124 ok.class_bytes (omega arith));
      inner = n.within;
    } in
    let more = added_grown t1 t2 p root a (λ h. it) in
    let is : field_at t2 root ≡ p = get_or_from_slice_get t2 root p unwritten (added_at t1 t2 p root a) in
    let old : AreWritten t1 = g.sound (subst AreWritten (sym e) (λ k q h. absurd (let z : None ≡ Some q = h in cc))) in
    let stands : Stands t2 inner (fields_of r.fields.items) = subst (λ z. Stands t2 z (fields_of r.fields.items)) (append-nil inner) (n.stand t2 more.keeps [] no_fields tables.none) in
    record {
      written = more.sound old;
      within = added_within t1 t2 p root a;
      text = ap (λ q. q.text) is ∙ same;
      inner = subst (λ q. All (λ k. k < length t2) q.inner) (sym is) (widened t1 t2 p more.more it).inner;
      stands = subst (λ q. Stands t2 q.inner (fields_of r.fields.items)) (sym is) stands;
    }

nothing_there : (t : List Written) (k : ℕ) → slice_get t k ≡ None → field_at t k ≡ unwritten
nothing_there [] k e = refl
nothing_there (p ∷ t) zero e = absurd (let z : Some p ≡ None = e in cc)
nothing_there (p ∷ t) (suc k) e = nothing_there t k e

free_of : (t : List Written) → AreWritten t → ZeroFree t
free_of t h k i d l = (at (slice_get t k) refl) i d l where
  at : (o : Option Written) → slice_get t k ≡ o → All (λ b. 1 ≤ b) (field_at t k).text
  at (Some p) e = subst (λ q. All (λ b. 1 ≤ b) q.text) (sym (get_or_from_slice_get t k p unwritten e)) (h k p e).bytes
  at None e = subst (λ q. All (λ b. 1 ≤ b) q.text) (sym (nothing_there t k e)) (All-nil (λ b. 1 ≤ b))

says_bytes_back : (t : List Written) (keep : Bool) (z : List ℕ) (r : Rest) (y : List ℕ) → Says t keep r y → Says t keep (bytes_then z r) (z ++ y)
says_bytes_back t keep [] r y h = h
says_bytes_back t keep (b ∷ z) r y h = (z ++ y, refl, says_bytes_back t keep z r y h)

says_fields_back : (t : List Written) (keep : Bool) (ks : List ℕ) (x : List ℕ) → Orderly t keep ks x → Says t keep (fields_then ks nothing) x
says_fields_back t keep [] x h = no_choice t keep h
says_fields_back t keep (k ∷ ks) x h = record { left = x; right = []; is = sym (append-nil x); first = h; second = refl }

-- the graph reads the texts of the record
pub begun_reads : (r : Record) (t : List Written) (root : ℕ) → Begun r t root → Same (GraphReads (writing t r.keep (bytes_then (field_at t root).text (fields_then (field_at t root).inner nothing)))) (OrdersOf r)
begun_reads r t root b x y w =
    let p = field_at t root in
    let free = free_of t b.written in
    let proper : NoZero (bytes_then p.text (fields_then p.inner nothing)) = zero_free_bytes p.text (fields_then p.inner nothing) (free root) (zero_free_fields p.inner nothing writings.at_end) in
    let q = writing_reads t r.keep (bytes_then p.text (fields_then p.inner nothing)) free proper x y w in
    let join = orderly_joining t r.keep b.stands in (
      λ h.
          let s = q.0 h in
          let u = says_bytes t r.keep p.text (fields_then p.inner nothing) x s.2 in
          let v = says_fields t r.keep p.inner nothing u.0 u.2 in
          let rest : u.0 ≡ v.left = v.is ∙ ap (λ z. v.left ++ z) v.second ∙ append-nil v.left in
          record {
            same = s.0;
            weight = s.1;
            orders = record {
              rest = u.0;
              text = u.1 ∙ ap (λ z. z ++ u.0) b.text ∙ append_assoc r.class (124 ∷ []) u.0;
              joins = subst (Joining r.keep (fields_of r.fields.items)) (sym rest) ((join v.left).0 v.first);
            };
          },
      λ h.
          let o = h.orders in
          let s : Says t r.keep (fields_then p.inner nothing) o.rest = says_fields_back t r.keep p.inner o.rest ((join o.rest).1 o.joins) in
          let e : p.text ++ o.rest ≡ x = ap (λ z. z ++ o.rest) b.text ∙ append_assoc r.class (124 ∷ []) o.rest ∙ sym o.text in
          q.1 (h.same, h.weight, subst (Says t r.keep (bytes_then p.text (fields_then p.inner nothing))) e (says_bytes_back t r.keep p.text (fields_then p.inner nothing) o.rest s)),
    )

-- the one state of a table where nothing is left
pub end_means : (t : List Written) (old new : List State) (k : ℕ) → old ≡ [] → Numbers old new End k → AllMean t new
end_means t old new k e h j l =
    let none : length old ≤ j = (let z : length old ≡ 0 = ap length e in omega (arith, z)) in
    (nothing, at_end (slice_get-get_or new j End l ∙ ap Some (fresh_at h End j none l)))

pub source_begun : (t : List Written) (keep : Bool) (s0 s1 s2 : List State) (first start root : ℕ) → AreWritten t → s0 ≡ [] → Numbers s0 s1 End first
    → Makes t s1 s2 first start (λ r. bytes_then (field_at t root).text (fields_then (field_at t root).inner r)) → IsSource (record { table = t; keep = keep; states = s2; start = start; root = root })
source_begun t keep s0 s1 s2 first start root w e h m = record { written = w; meant = m.grew.meant (end_means t s0 s1 first e h); first = m.means nothing (at_end h.stored) }

pub source_grew : (t : List Written) (keep : Bool) (s u : List State) (start root : ℕ) → IsSource (record { table = t; keep = keep; states = s; start = start; root = root }) → Grew t s u → IsSource (record { table = t; keep = keep; states = u; start = start; root = root })
source_grew t keep s u start root h g = record { written = h.written; meant = g.meant h.meant; first = means_kept t s u g.keeps h.first }

-- another state is not final
pub not_final : (t : List Written) (s : List State) (k : ℕ) (e : State) {r : Rest} → (e ≡ End → ⊥) → slice_get s k ≡ Some e → Means t s k r → final_at r ≡ None
not_final t s k e n h (at_end f) = absurd (n (let g : Some e ≡ Some End = sym h ∙ f in cc))
not_final t s k e n h (at_byte f m) = refl
not_final t s k e n h (at_text {p} {i} {r} f a b m) = subst (λ z. final_at (bytes_then z r) ≡ None) (sym (drop_more (field_at t p).text i 0 b)) refl
not_final t s k e n h (at_fields f a m) = refl
