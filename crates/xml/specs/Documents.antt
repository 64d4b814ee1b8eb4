-- Which listings are documents, and the tree of each, by these productions of XML 1.0, as far as a listing is looked at:
--   [1]  document: one root element, with any number of Misc before and behind it
--   [27] Misc: white space, a comment or an instruction
--   [39] element: the tag of an empty element, or a start tag, content, and an end tag with the same name
--   [43] content: text, elements, comments and instructions
-- No document type declaration and no CDATA section is allowed. An XML declaration counts as an instruction, and a reference as text.
use Rattle.std.specs.Prelude.{◌≡◌, ℕ, suc, ◌+◌, ◌<◌, true, false, List, length, drop, None, Option}
use Rattle.sources.specs.declared.event.Event.{Event}
use Rattle.sources.specs.Forest.{Forest, events_of, nodes_of, post_order}
use Rattle.sources.specs.Forest.Forest.{none, tree}
use Rattle.sources.specs.Nodes.{nodes, closing_order}
use Rattle.labels.specs.Spelling.{byte_at, part, is_white}
use Rattle.xml.specs.Markup.{markup, IsComment, IsInstruction, IsStart, IsEnd}
use Rattle.xml.specs.Reading.{depth_limit}
use Rattle.xml.specs.declared.markup.Markup.{Markup}
use Rattle.xml.specs.declared.markup.Markup.TheVariants.{Text, EndTag, Comment, Instruction, StartTag}
use Rattle.xml.specs.declared.fault.XmlFault.{XmlFault}

-- the markup that the bytes from p on begin
abbrev pub StartsAt : List ℕ → ℕ → Markup → Type 0
StartsAt xs p k = markup (drop p xs) ≡ k

-- any number of Misc from p to q
pub data Misc (xs : List ℕ) : ℕ → ℕ → Type 0 where
  nothing : {p : ℕ} → Misc xs p p
  space : {p q : ℕ} → StartsAt xs p Text → is_white (byte_at xs p) ≡ true → Misc xs (p + 1) q → Misc xs p q
  comment : {p r q : ℕ} → StartsAt xs p Comment → IsComment xs p r → Misc xs r q → Misc xs p q
  instruction : {p r q : ℕ} → StartsAt xs p Instruction → IsInstruction xs p r → Misc xs r q → Misc xs p q

-- the productions that contain each other
pub data Production : Type 0 where
  element : Production
  content : Production

-- An element, or content, stands from p to q with k elements open around it. Its trees have the names of the elements for labels.
pub data Derives (xs : List ℕ) : Production → ℕ → ℕ → ℕ → Forest (List ℕ) → Type 0 where
  empty_tag : {k p n q : ℕ} → k < depth_limit → StartsAt xs p StartTag → IsStart xs p n q true → Derives xs element k p q (tree (part xs (p + 1) n) none none)
  tags : {k p n r s m q : ℕ} {inside : Forest (List ℕ)} →
      k < depth_limit → StartsAt xs p StartTag → IsStart xs p n r false →
      Derives xs content (suc k) r s inside →
      StartsAt xs s EndTag → IsEnd xs s m q → part xs (s + 2) m ≡ part xs (p + 1) n →
      Derives xs element k p q (tree (part xs (p + 1) n) inside none)
  nothing : {k p : ℕ} → Derives xs content k p p none
  text : {k p q : ℕ} {trees : Forest (List ℕ)} → StartsAt xs p Text → Derives xs content k (p + 1) q trees → Derives xs content k p q trees
  comment : {k p r q : ℕ} {trees : Forest (List ℕ)} → StartsAt xs p Comment → IsComment xs p r → Derives xs content k r q trees → Derives xs content k p q trees
  instruction : {k p r q : ℕ} {trees : Forest (List ℕ)} → StartsAt xs p Instruction → IsInstruction xs p r →
      Derives xs content k r q trees → Derives xs content k p q trees
  child : {k p r q : ℕ} {w : List ℕ} {inside behind : Forest (List ℕ)} →
      Derives xs element k p r (tree w inside none) → Derives xs content k r q behind → Derives xs content k p q (tree w inside behind)

-- From p on, the rest of the listing is a document, with the root's tree.
pub record DocumentFrom (xs : List ℕ) (p : ℕ) (trees : Forest (List ℕ)) : Type 0 where
  pub start : ℕ
  pub stop : ℕ
  pub before : Misc xs p start
  pub root : Derives xs element 0 start stop trees
  pub behind : Misc xs stop (length xs)

-- the whole of it
abbrev pub Document : List ℕ → Forest (List ℕ) → Type 0
Document xs trees = DocumentFrom xs 0 trees

-- A listing is done exactly when it is a document. Then its events are those of the document's tree, its nodes are the document's
-- elements, in order, each under the element around it, and they close in the order in which the elements end.
pub record DoneAsDocument (xs : List ℕ) (es : List (Event (List ℕ))) (end : Option XmlFault) : Type 0 where
  pub only_documents : end ≡ None → (trees : Forest (List ℕ)) × Document xs trees × (es ≡ events_of trees)
      × (nodes es ≡ nodes_of None 0 trees) × (closing_order es ≡ post_order 0 trees)
  pub all_documents : (trees : Forest (List ℕ)) → Document xs trees → (end ≡ None) × (es ≡ events_of trees)
