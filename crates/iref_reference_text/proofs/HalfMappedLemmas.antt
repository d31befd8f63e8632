-- A step of the mapping from the back, in place.
use Rattle.std.proofs.Common.{◌≡◌, ℕ, ◌+◌, ◌-◌, ◌*◌, ◌<◌, ◌≤◌, not, ◌++◌, length, get_or, take, drop, sym, ◌∙◌, ap, arith, append_assoc, take-append-drop}
use Rattle.std.proofs.{lemmas.Grind.{common_steps}, lemmas.List.Sums.{count_by-le-length}}
use Rattle.std.proofs.lemmas.List.{length-append, length-drop, length-take-le, take-append-le}
use Rattle.std.proofs.Math.Seq.{take-length, drop-length, drop-append_seam}
use Rattle.std.specs.Char.{is_ascii}
use Rattle.iref_grammar.specs.Rules.{Text}
use Rattle.iref_grammar.specs.Mapping.{mapped_byte, mapped, count_escaped, mapped_index}
use Rattle.iref_grammar.proofs.MappedLemmas.{mapped-nil, mapped-ascii, length-mapped, none_escaped}
use Rattle.iref_grammar.proofs.MappedBackLemmas.{mapped-split, mapped-drop, mapped_index-next, mapped_index-is}

-- the first left bytes of the text stand in the buffer, and the mapping of the others from end on
pub record IsHalfMapped (text buffer : Text) (left end : ℕ) : Type 0 where
  pub long : length buffer ≡ length (mapped text)
  pub within : left ≤ length text
  pub index : end ≡ mapped_index text left
  pub front : take left buffer ≡ take left text
  pub back : drop end buffer ≡ mapped (drop left text)

-- at the start
pub half_mapped_none : (buffer : Text) (from : ℕ) → from ≤ length buffer → length buffer ≡ length (mapped (take from buffer)) → IsHalfMapped (take from buffer) buffer from (length buffer)
half_mapped_none buffer from h e = grind (arith, common_steps, length-take-le, take-length, drop-length, mapped-nil)

-- a front of a front
front_of_front : (xs : Text) (n m : ℕ) → n ≤ m → m ≤ length xs → take n (take m xs) ≡ take n xs
front_of_front xs n m h k = grind (arith, common_steps)

module _ (text buffer : Text) (left end : ℕ) (h : IsHalfMapped text buffer left end) where
  -- the mapping of what is left needs up to three times its room
  room_left : (end ≡ left + 2 * count_escaped (take left text)) × (count_escaped (take left text) ≤ left)
  room_left =
      let within = h.within in
      let long = length-take-le left text within in
      let count = count_by-le-length (λ (b : ℕ). not (is_ascii b)) (take left text) in
      (h.index ∙ mapped_index-is text left within, omega arith)

  -- where there is more room than is left, some byte is left
  pub half_mapped_some : left < end → left - 1 + 1 ≡ left
  half_mapped_some more = let room = room_left in omega arith

  -- where there is as much, no byte left is escaped, so all stand
  pub half_mapped_all : end ≤ left → buffer ≡ mapped text
  half_mapped_all full =
      let room = room_left in
      let same : end ≡ left = omega arith in
      let none : count_escaped (take left text) ≡ 0 = omega arith in
      sym (take-append-drop left buffer)
      ∙ (λ i. (h.front ∙ sym (mapped-ascii (take left text) ((none_escaped (take left text)).0 none))) i ++ (ap (λ n. drop n buffer) (sym same) ∙ h.back) i)
      ∙ sym (mapped-split text left)

-- one byte less
module _ (text buffer : Text) (left end prev : ℕ) (h : IsHalfMapped text buffer left end) (some : prev + 1 ≡ left) where
  -- the last byte is the one that stands in the buffer
  pub same_byte : get_or buffer prev 0 ≡ get_or text prev 0
  same_byte = grind (arith, common_steps)

  pub step_index : mapped_index text prev + length (mapped_byte (get_or text prev 0)) ≡ end
  step_index = grind (arith, common_steps, mapped_index-next)

  pub step_within : end ≤ length buffer
  step_within =
      let l = h.long in let w = h.within in let p = h.index in
      let all = mapped-split text left in
      let long = ap length all ∙ length-append (mapped (take left text)) (mapped (drop left text)) in
      omega arith

  -- after the byte's mapping was written before end
  module _ (start : ℕ) (new : Text) (at : start + length (mapped_byte (get_or text prev 0)) ≡ end) (written : new ≡ take start buffer ++ mapped_byte (get_or text prev 0) ++ drop end buffer) where
    starts : start ≡ mapped_index text prev
    starts = let p = step_index in omega arith

    front_long : length (take start buffer) ≡ start
    front_long = let w = step_within in length-take-le start buffer (omega arith)

    pub half_mapped_more : IsHalfMapped text new prev start
    half_mapped_more =
        let inside : prev < length text = let w = h.within in omega arith in
        let room = mapped_index-is text prev (omega arith) in
        let first = starts in
        let within = step_within in
        let l = front_long in
        let short : prev ≤ length (take start buffer) = omega arith in
        record {
          long = ap length written ∙ length-append (take start buffer ++ mapped_byte (get_or text prev 0)) (drop end buffer)
              ∙ ap (λ n. n + length (drop end buffer)) (length-append (take start buffer) (mapped_byte (get_or text prev 0)))
              ∙ (let d = length-drop end buffer in let e = h.long in omega arith);
          within = omega arith;
          index = first;
          front = ap (take prev) (written ∙ append_assoc (take start buffer) (mapped_byte (get_or text prev 0)) (drop end buffer))
              ∙ take-append-le prev (take start buffer) (mapped_byte (get_or text prev 0) ++ drop end buffer) short
              ∙ front_of_front buffer prev start (omega arith) (omega arith)
              ∙ sym (front_of_front buffer prev left (omega arith) (let e = h.long in let w = h.within in let m = length-mapped text in omega arith)) ∙ ap (take prev) h.front
              ∙ front_of_front text prev left (omega arith) h.within;
          back = ap (drop start) (written ∙ append_assoc (take start buffer) (mapped_byte (get_or text prev 0)) (drop end buffer))
              ∙ ap (λ n. drop n (take start buffer ++ (mapped_byte (get_or text prev 0) ++ drop end buffer))) (sym l)
              ∙ drop-append_seam (take start buffer) (mapped_byte (get_or text prev 0) ++ drop end buffer)
              ∙ ap (λ t. mapped_byte (get_or text prev 0) ++ t) (h.back ∙ ap (λ n. mapped (drop n text)) (sym some))
              ∙ sym (mapped-drop text prev inside);
        }
