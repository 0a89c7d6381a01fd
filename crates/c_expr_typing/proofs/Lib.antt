mod Forms
pub mod MemberLists
