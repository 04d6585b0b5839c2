-- What the contracts of the files that may give up a page speak of: sets of files, the file that leads.
pub mod Sets
pub mod Leads
