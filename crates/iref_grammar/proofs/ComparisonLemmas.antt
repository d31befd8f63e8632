-- What segments read from the back say of every list that ends in them.
use Rattle.std.proofs.Common.{arith, ◌≡◌, ℕ, Bool, true, false, cond, ◌&&◌, List, [], ◌∷◌, ◌++◌, map, refl, sym, ◌∙◌, ap, append_assoc, ◌==◌, true≢false}
use Rattle.std.proofs.{lemmas.Grind.{common_steps}, lemmas.List.{append-nil}, lemmas.Slice.Eq.{bytes_eq-Decides}}
use Rattle.percent_encoding.specs.Percent.{percent_decode}
use Rattle.percent_encoding.proofs.PercentLemmas.{percent_decode-nil}
use Rattle.iref_grammar.specs.{Rules.{Text}, Texts.{is_empty}}
use Rattle.iref_grammar.specs.{PathSuffix.{same_decoded}, NormalList.{is_dot_dot, is_name, counted, without_lone_empty}}
use Rattle.iref_grammar.specs.CountedEquality.{ItemRead, Comparison, last_read, item_before, items_read, all_items_read, items_compared}
use Rattle.iref_grammar.proofs.BackLemmas.{item_of, items-last}
use Rattle.iref_grammar.proofs.LeadingLemmas.{decoded}

-- Each item of the list is the next item of F on any list that begins with the segments seen, whatever comes after them;
-- and where none is left unread, nothing comes after them.
abbrev pub Reads : (List Text → List Text) → List Text → List ItemRead → Type 0
Reads F r [] = F r ≡ []
Reads F r (e ∷ es) =
    (seen : List Text) × (later : List Text → List Text) × (r ≡ seen ++ e.unread)
    × ((more : List Text) → (e.unread ≡ [] → more ≡ []) → F (seen ++ more) ≡ e.item ∷ later more) × Reads later e.unread es

reads-last : (F : List Text → List Text) (list : List Text) → F [] ≡ list → Reads F [] (map last_read list)
reads-last F [] h = h
reads-last F (t ∷ list) h = ([], λ x. list, refl, λ more e. ap F (e refl) ∙ h, reads-last (λ x. list) list refl)

reads-past : (F G : List Text → List Text) (s : Text) (r : List Text) (es : List ItemRead) → ((x : List Text) → G (s ∷ x) ≡ F x) → Reads F r es → Reads G (s ∷ r) es
reads-past F G s r [] e h = e r ∙ h
reads-past F G s r (x ∷ es) e h = (s ∷ h.0, h.1, ap (λ xs. s ∷ xs) h.2, λ more k. e (h.0 ++ more) ∙ h.3 more k, h.4)

abbrev items_of : Bool → ℕ → List Text → List Text
items_of absolute behind back = map item_of (items_read absolute behind back)

reads-items_read : (absolute : Bool) (behind : ℕ) (back : List Text) → Reads (items_of absolute behind) back (items_read absolute behind back)
reads-items_read absolute behind [] = grind (arith, reads-last, items-last)
reads-items_read absolute behind (s ∷ before) =
    let n = counted (is_dot_dot s) (is_name s) behind in
    by (is_name s && (behind == 0)) (items_of absolute n) (items_read absolute n) (items_of absolute behind) (λ x. refl) (λ x. refl) (reads-items_read absolute n before)
  where
    by : (b : Bool) (F : List Text → List Text) (f : List Text → List ItemRead) (G : List Text → List Text) → ((x : List Text) → F x ≡ map item_of (f x)) → ((x : List Text) → G (s ∷ x) ≡ map item_of (item_before b s x (f x))) → Reads F before (f before) → Reads G (s ∷ before) (item_before b s before (f before))
    by true F f G d e h = (s ∷ [], F, refl, λ more k. e more ∙ ap (λ xs. s ∷ xs) (sym (d more)), h)
    by false F f G d e h = reads-past F G s before (f before) (λ x. e x ∙ sym (d x)) h

pub reads-all_items_read : (absolute : Bool) (back : List Text) → Reads (λ x. map item_of (all_items_read absolute x)) back (all_items_read absolute back)
reads-all_items_read absolute [] = reads-last (λ x. map item_of (all_items_read absolute x)) ([] ∷ []) refl
reads-all_items_read absolute (s ∷ before) =
    let n = counted (is_dot_dot s) (is_name s) 0 in
    (s ∷ [], items_of absolute n, refl, λ more k. refl, reads-items_read absolute n before)

-- ---- two lists side by side

-- What the comparison has read of both decides that the items differ.
pub record AreReadApart (F G : List Text → List Text) (r q : List Text) (left right : List Text) : Type 0 where
  pub seen_left : List Text
  pub seen_right : List Text
  pub split_left : r ≡ seen_left ++ left
  pub split_right : q ≡ seen_right ++ right
  pub apart : (more other : List Text) → (left ≡ [] → more ≡ []) → (right ≡ [] → other ≡ []) → ¬ (decoded (F (seen_left ++ more)) ≡ decoded (G (seen_right ++ other)))

front_nil : (xs ys : List Text) → xs ++ ys ≡ [] → xs ≡ []
front_nil [] ys h = refl
front_nil (x ∷ xs) ys h = absurd (true≢false (sym (ap is_empty h)))

nothing_after : (u l left more : List Text) → u ≡ l ++ left → (left ≡ [] → more ≡ []) → u ≡ [] → l ++ more ≡ []
nothing_after u l left more e k h = grind (arith, front_nil)

abbrev tail_of : List Text → List Text
tail_of [] = []
tail_of (x ∷ xs) = xs

-- the rest of a split
split_again : (r seen u l left : List Text) → r ≡ seen ++ u → u ≡ l ++ left → r ≡ (seen ++ l) ++ left
split_again r seen u l left e f = e ∙ ap (λ xs. seen ++ xs) f ∙ sym (append_assoc seen l left)

pub read_apart : (ss ts : List ItemRead) (F G : List Text → List Text) (r q : List Text) → Reads F r ss → Reads G q ts → (items_compared ss ts).equal ≡ false → AreReadApart F G r q (items_compared ss ts).left (items_compared ss ts).right
read_apart [] [] F G r q a b h = absurd (true≢false h)
read_apart [] (t ∷ ts) F G r q a b h =
    record {
      seen_left = r;
      seen_right = b.0;
      split_left = sym (append-nil r);
      split_right = b.2;
      apart = λ more other k l e.
          let here : decoded (F (r ++ more)) ≡ [] = ap (λ m. decoded (F (r ++ m))) (k refl) ∙ ap (λ m. decoded (F m)) (append-nil r) ∙ ap decoded a in
          let there : decoded (G (b.0 ++ other)) ≡ decoded (t.item ∷ b.1 other) = ap decoded (b.3 other l) in
          true≢false (ap is_empty (sym here ∙ e ∙ there));
    }
read_apart (s ∷ ss) [] F G r q a b h =
    record {
      seen_left = a.0;
      seen_right = q;
      split_left = a.2;
      split_right = sym (append-nil q);
      apart = λ more other k l e.
          let here : decoded (F (a.0 ++ more)) ≡ decoded (s.item ∷ a.1 more) = ap decoded (a.3 more k) in
          let there : decoded (G (q ++ other)) ≡ [] = ap (λ m. decoded (G (q ++ m))) (l refl) ∙ ap (λ m. decoded (G m)) (append-nil q) ∙ ap decoded b in
          true≢false (sym (ap is_empty (sym here ∙ e ∙ there)));
    }
read_apart (s ∷ ss) (t ∷ ts) F G r q a b h =
    by (same_decoded s.item t.item) refl (items_compared ss ts) (read_apart ss ts a.1 b.1 s.unread t.unread a.4 b.4) h
  where
    by : (same : Bool) → same_decoded s.item t.item ≡ same → (c : Comparison) → (c.equal ≡ false → AreReadApart a.1 b.1 s.unread t.unread c.left c.right) → let d = cond same c (record { equal = false; left = s.unread; right = t.unread }) in d.equal ≡ false → AreReadApart F G r q d.left d.right
    by true i c ih h =
        let known = ih h in
        record {
          seen_left = a.0 ++ known.seen_left;
          seen_right = b.0 ++ known.seen_right;
          split_left = split_again r a.0 s.unread known.seen_left c.left a.2 known.split_left;
          split_right = split_again q b.0 t.unread known.seen_right c.right b.2 known.split_right;
          apart = λ more other k l e.
              let here : decoded (F ((a.0 ++ known.seen_left) ++ more)) ≡ decoded (s.item ∷ a.1 (known.seen_left ++ more)) =
              ap (λ m. decoded (F m)) (append_assoc a.0 known.seen_left more)
              ∙ ap decoded (a.3 (known.seen_left ++ more) (nothing_after s.unread known.seen_left c.left more known.split_left k)) in
              let there : decoded (G ((b.0 ++ known.seen_right) ++ other)) ≡ decoded (t.item ∷ b.1 (known.seen_right ++ other)) =
              ap (λ m. decoded (G m)) (append_assoc b.0 known.seen_right other)
              ∙ ap decoded (b.3 (known.seen_right ++ other) (nothing_after t.unread known.seen_right c.right other known.split_right l)) in
              known.apart more other k l (ap tail_of (sym here ∙ e ∙ there));
        }
    by false i c ih h = grind (arith, common_steps, bytes_eq-Decides)

-- where the comparison finds no difference, the items decode to the same and nothing is left unread
pub record AreReadEqual (ss ts : List ItemRead) (c : Comparison) : Type 0 where
  pub same_items : decoded (map item_of ss) ≡ decoded (map item_of ts)
  pub left : c.left ≡ []
  pub right : c.right ≡ []

pub read_equal : (ss ts : List ItemRead) → (items_compared ss ts).equal ≡ true → AreReadEqual ss ts (items_compared ss ts)
read_equal [] [] h = record { same_items = refl; left = refl; right = refl }
read_equal [] (t ∷ ts) h = absurd (true≢false (sym h))
read_equal (s ∷ ss) [] h = absurd (true≢false (sym h))
read_equal (s ∷ ss) (t ∷ ts) h = grind (arith, bytes_eq-Decides, read_equal ss ts)

-- ---- one empty item stands for none

decoded_some : (c : ℕ) (cs : Text) → is_empty (percent_decode (c ∷ cs)) ≡ false
unfolding percent_decode
decoded_some c [] = refl
decoded_some c (d ∷ []) = refl
decoded_some c (d ∷ e ∷ cs) = grind arith

pub empty-decoded : (s : Text) → is_empty (percent_decode s) ≡ is_empty s
empty-decoded [] = ap is_empty percent_decode-nil
empty-decoded (c ∷ cs) = decoded_some c cs

lone-decoded : (list : List Text) → without_lone_empty (decoded list) ≡ decoded (without_lone_empty list)
lone-decoded [] = refl
lone-decoded (s ∷ list) = grind (arith, empty-decoded)

-- lists that decode to the same do so with a lone empty item set aside
pub lone_equal : (xs ys : List Text) → decoded xs ≡ decoded ys → decoded (without_lone_empty xs) ≡ decoded (without_lone_empty ys)
lone_equal xs ys e = sym (lone-decoded xs) ∙ ap without_lone_empty e ∙ lone-decoded ys

-- and no other lists are, where both have items
pub lone_same : (x y : Text) (xs ys : List Text) → decoded (without_lone_empty (x ∷ xs)) ≡ decoded (without_lone_empty (y ∷ ys)) → decoded (x ∷ xs) ≡ decoded (y ∷ ys)
lone_same x y xs ys e = grind arith
